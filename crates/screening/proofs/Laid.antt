-- Where the trees of cited rows begin, from the last of them to the first.
use Rattle.std.proofs.Common.{◌≡◌, ℕ, ◌≤◌, List, [], ◌∷◌, ◌++◌, Some, None, Option, refl, ap, arith}
use Rattle.screening.specs.Screening.{before, laid}
use Rattle.std.proofs.lemmas.Bool.Decides.{nat_tests}

-- where the trees of these rows begin, if those after them begin here
abbrev pub under : List ℕ → Option ℕ → List ℕ → Option ℕ
under done next [] = next
under done next (p ∷ ps) = before done p (under done next ps)

pub under_laid : (done : List ℕ) (n : ℕ) (ps : List ℕ) → under done (Some n) ps ≡ laid done n ps
under_laid done n [] = refl
under_laid done n (p ∷ ps) = ap (before done p) (under_laid done n ps)

pub under_push : (done : List ℕ) (next : Option ℕ) (ps : List ℕ) (p : ℕ) → under done next (ps ++ p ∷ []) ≡ under done (before done p next) ps
under_push done next [] p = refl
under_push done next (q ∷ ps) p = ap (before done q) (under_push done next ps p)

pub under_none : (done ps : List ℕ) → under done None ps ≡ None
under_none done [] = refl
under_none done (p ∷ ps) = ap (before done p) (under_none done ps)

pub before_le : (done : List ℕ) (p n m : ℕ) → before done p (Some n) ≡ Some m → m ≤ n
before_le done p n m e = grind (arith, nat_tests)
