-- What is written for an operator, and for a step that was not taken.
use Rattle.std.specs.Prelude.{ℕ, List, codes}
use Rattle.stepping.specs.declared.tree.Operator.{Operator}
use Rattle.stepping.specs.declared.tree.Operator.TheVariants.{Plus, Times}
use Rattle.stepping.specs.declared.error.NoStep.{NoStep}
use Rattle.stepping.specs.declared.error.NoStep.TheVariants.{NoNext, OutOfMemory}

-- the sign between two operands
abbrev pub sign : Operator → List ℕ
sign Plus = codes "+"
sign Times = codes "*"

-- why there was no step
abbrev pub reason : NoStep → List ℕ
reason NoNext = codes "no next configuration"
reason (OutOfMemory _) = codes "out of memory"
