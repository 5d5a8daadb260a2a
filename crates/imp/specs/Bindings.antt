-- What a run reads and writes, the bindings; which names it may write; and what it reckons with, an arithmetic.
use Rattle.std.specs.Prelude.{ℕ, Bool, cond, ℤ, Some, Option, ◌==◌}

-- the number of each bound name, and none for any other
abbrev pub Bindings : Type 0
Bindings = ℕ → Option ℤ

-- σ[x ↦ v]: the name x is bound to v, and every other as before
abbrev pub bind : Bindings → ℕ → ℤ → Bindings
bind σ x v = λ y. cond (y == x) (Some v) (σ y)

-- whether a name may be written
abbrev pub Writable : Type 0
Writable = ℕ → Bool

-- An arithmetic: the number that a numeral stands for, sum and product where there is one, and the order.
pub record Arithmetic : Type 0 where
  pub numeral : ℤ → ℤ
  pub sum : ℤ → ℤ → Option ℤ
  pub product : ℤ → ℤ → Option ℤ
  pub less : ℤ → ℤ → Bool
