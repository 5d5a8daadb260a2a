-- The fields that are used, by cutting the fields in two.
use Rattle.std.proofs.Common.{rules, ◌≡◌, ℕ, ◌<◌, ◌≤◌, length, List, [], ◌∷◌, take, drop, Some, None, cond, refl, Bool, true, false}
use Rattle.rows.specs.Fields.{unused, after, used}

-- too few fields
pub used_short : {T : Type 0} → (parts : List T) (fs : List ℕ) → length fs < length parts → used parts fs ≡ None
used_short [] fs lt = search rules
used_short (_ ∷ parts) [] lt = refl
used_short (_ ∷ parts) (f ∷ fs) lt = let rest = used_short parts fs (search rules) in search rules

-- one field more
after_cond : (f : ℕ) (b : Bool) (fs : List ℕ) → after f (cond b (Some fs) None) ≡ cond b (Some (f ∷ fs)) None
after_cond f true fs = refl
after_cond f false fs = refl

-- the first fields, where the others are unused
pub used_cut : {T : Type 0} → (parts : List T) (fs : List ℕ) → length parts ≤ length fs → used parts fs ≡ cond (unused (drop (length parts) fs)) (Some (take (length parts) fs)) None
used_cut [] fs le = refl
used_cut (_ ∷ parts) [] le = search rules
used_cut (_ ∷ parts) (f ∷ fs) le =
    let rest = used_cut parts fs (search rules) in
    let more = after_cond f (unused (drop (length parts) fs)) (take (length parts) fs) in
    search rules
