-- The tree of the language that a tree in memory is. A case with a prime has each `Box` in two parts: where it lies, here p
-- and q, and what it holds.
use Rattle.imp.specs.Syntax.{Op, Aexp, Bexp, Com}
use Rattle.imp.specs.Syntax.Op.{plus, times}
use Rattle.imp.specs.Syntax.Aexp.{num, val, name, op}
use Rattle.imp.specs.Syntax.Bexp.{lit, less, neg, and}
use Rattle.imp.specs.Syntax.Com.{skip, assign, seq, ifte, while}
use Rattle.stepping.specs.declared.tree.Operator.{Operator}
use Rattle.stepping.specs.declared.tree.Operator.TheVariants.{Plus, Times}
use Rattle.stepping.specs.declared.tree.Expression.{Expression}
use Rattle.stepping.specs.declared.tree.Expression.TheVariants.{Numeral, Value, Name, Operation'}
use Rattle.stepping.specs.declared.tree.Test.{Test}
use Rattle.stepping.specs.declared.tree.Test.TheVariants.{Truth, Less, Not', And'}
use Rattle.stepping.specs.declared.tree.Command.{Command}
use Rattle.stepping.specs.declared.tree.Command.TheVariants.{Skip, Assign, Sequence', If', While'}

-- sum or product
abbrev pub op_of : Operator → Op
op_of Plus = plus
op_of Times = times

-- an expression
abbrev pub expression_of : Expression → Aexp
expression_of (Numeral n) = num n
expression_of (Value v) = val v
expression_of (Name x) = name x
expression_of (Operation' o p a q b) = op (op_of o) (expression_of a) (expression_of b)

-- a test
abbrev pub test_of : Test → Bexp
test_of (Truth t) = lit t
test_of (Less a b) = less (expression_of a) (expression_of b)
test_of (Not' p b) = neg (test_of b)
test_of (And' p a q b) = and (test_of a) (test_of b)

-- a command
abbrev pub command_of : Command → Com
command_of Skip = skip
command_of (Assign x a) = assign x (expression_of a)
command_of (Sequence' p c q d) = seq (command_of c) (command_of d)
command_of (If' b p c q d) = ifte (test_of b) (command_of c) (command_of d)
command_of (While' b p c) = while (test_of b) (command_of c)
