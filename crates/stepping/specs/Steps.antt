-- Bindings in memory, and what a step in place does.
use Rattle.std.specs.Prelude.{◌≡◌, Bool, true, false, List, length, ℤ, Some, None, Ok, Err, Option, Result, nat_lt, slice_index_or}
use Rattle.imp.specs.Bindings.{Bindings, Writable}
use Rattle.imp.specs.Syntax.{Com}
use Rattle.imp.specs.Syntax.Com.{skip, assign, seq, ifte, while}
use Rattle.imp.specs.Next.{next}
use Rattle.stepping.specs.Exact.{exact}
use Rattle.stepping.specs.declared.error.NoStep.{NoStep}
use Rattle.stepping.specs.declared.error.NoStep.TheVariants.{NoNext, OutOfMemory}

-- the bindings that a list holds, with a number or none for each of its names
abbrev pub bound : List (Option ℤ) → Bindings
bound numbers x = slice_index_or numbers x None

-- the names that it has: these may be written
abbrev pub writable : List (Option ℤ) → Writable
writable numbers x = nat_lt x (length numbers)

-- whether the next step unrolls a loop
abbrev pub unrolls : Com → Bool
unrolls skip = false
unrolls (assign x a) = false
unrolls (seq c d) = unrolls c
unrolls (ifte b c d) = false
unrolls (while b c) = true

-- a configuration with no next is left as it was
pub record Halted (c : Com) (before : List (Option ℤ)) (d : Com) (after : List (Option ℤ)) : Type 0 where
  pub no_next : next exact (writable before) c (bound before) ≡ None
  pub same : (d ≡ c) × (after ≡ before)

-- a step that found no memory: only an unrolling needs any, and nothing is changed
pub record Refused (c : Com) (before : List (Option ℤ)) (d : Com) (after : List (Option ℤ)) : Type 0 where
  pub unrolling : unrolls c ≡ true
  pub same : (d ≡ c) × (after ≡ before)

-- what an answer says of the configurations before and after it: that the step was taken, so that the second is the next
-- of the first; that there is none; or that memory failed
abbrev pub Answered : {X : Type 0} → Com → List (Option ℤ) → Result X NoStep → Com → List (Option ℤ) → Type 0
Answered c before (Ok _) d after = next exact (writable before) c (bound before) ≡ Some (d, bound after)
Answered c before (Err NoNext) d after = Halted c before d after
Answered c before (Err (OutOfMemory _)) d after = Refused c before d after
