-- The arithmetic of whole numbers of 32 bits: results are the true ones, and there is none outside the range.
use Rattle.std.specs.Prelude.{cond, ℤ, pos, negsuc, ◌+ℤ◌, ◌*ℤ◌, Some, None, Option, nat_lt}
use Rattle.std.specs.Int.Signed.{lt_z}
use Rattle.imp.specs.Bindings.{Arithmetic}

-- a number from -2,147,483,648 to 2,147,483,647, and none for any other; `negsuc n` is -(n + 1)
abbrev pub ranged : ℤ → Option ℤ
ranged (pos n) = cond (nat_lt n 2147483648) (Some (pos n)) None
ranged (negsuc n) = cond (nat_lt n 2147483648) (Some (negsuc n)) None

-- a numeral is itself, and the order is the usual one
abbrev pub exact : Arithmetic
exact = record {
  numeral = λ n. n;
  sum = λ u v. ranged (u +ℤ v);
  product = λ u v. ranged (u *ℤ v);
  less = lt_z;
}
