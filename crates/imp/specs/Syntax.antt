-- The trees of IMP: expressions, tests and commands.
--
--   a ::= n | x | a + a | a × a
--   b ::= true | false | a < a | not b | b and b
--   c ::= skip | x := a | c ; c | if b then c else c | while b do c
use Rattle.std.specs.Prelude.{ℕ, Bool, ℤ}

-- sum and product
pub data Op : Type 0 where
  plus times : Op

-- Expressions. `val` is the number that a step leaves in the place of what it evaluated. It is not read as a numeral, and
-- no program holds one.
pub data Aexp : Type 0 where
  num : ℤ → Aexp
  val : ℤ → Aexp
  name : ℕ → Aexp
  op : Op → Aexp → Aexp → Aexp

-- tests; true and false are their own values
pub data Bexp : Type 0 where
  lit : Bool → Bexp
  less : Aexp → Aexp → Bexp
  neg : Bexp → Bexp
  and : Bexp → Bexp → Bexp

-- commands
pub data Com : Type 0 where
  skip : Com
  assign : ℕ → Aexp → Com
  seq : Com → Com → Com
  ifte : Bexp → Com → Com → Com
  while : Bexp → Com → Com

-- an expression as one writes it: it holds no `val`
abbrev pub PlainA : Aexp → Type 0
PlainA (num n) = Unit {0}
PlainA (val v) = ⊥
PlainA (name x) = Unit {0}
PlainA (op o a b) = PlainA a × PlainA b

-- a test as one writes it
abbrev pub PlainB : Bexp → Type 0
PlainB (lit t) = Unit {0}
PlainB (less a b) = PlainA a × PlainA b
PlainB (neg b) = PlainB b
PlainB (and a b) = PlainB a × PlainB b

-- a program: a command as one writes it
abbrev pub Plain : Com → Type 0
Plain skip = Unit {0}
Plain (assign x a) = PlainA a
Plain (seq c d) = Plain c × Plain d
Plain (ifte b c d) = PlainB b × Plain c × Plain d
Plain (while b c) = PlainB b × Plain c
