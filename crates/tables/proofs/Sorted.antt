-- Whether children are of their sorts, pair by pair.
use Rattle.std.proofs.Common.{◌≡◌, ℕ, ◌<◌, ◌≤◌, false, List, [], ◌∷◌, length, refl, arith, rules}
use Rattle.std.specs.List.{list_all, zip}
use Rattle.rows.specs.declared.syntax.Sort.{Sort}
use Rattle.rows.specs.declared.syntax.SyntaxRow.{SyntaxRow}
use Rattle.tables.specs.Forming.{sort_at, is_of, have_sorts}

-- as many children as sorts, or more
pub have_sorts_zip : (rows : List SyntaxRow) (ss : List Sort) (ps : List ℕ) → length ss ≤ length ps → have_sorts rows ss ps ≡ list_all (λ q. is_of q.0 (sort_at rows q.1)) (zip ss ps)
have_sorts_zip rows [] ps le = refl
have_sorts_zip rows (s ∷ ss) ps le = grind (arith, have_sorts_zip rows ss)

-- fewer children than sorts
pub have_sorts_few : (rows : List SyntaxRow) (ss : List Sort) (ps : List ℕ) → length ps < length ss → have_sorts rows ss ps ≡ false
have_sorts_few rows [] ps lt = search rules
have_sorts_few rows (s ∷ ss) ps lt = grind (arith, have_sorts_few rows ss)
