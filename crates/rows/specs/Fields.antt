-- The three fields of a row that may cite earlier rows.
use Rattle.std.specs.Prelude.{ℕ, Bool, cond, List, [], ◌∷◌, ◌++◌, take, Some, None, Option, ◌==◌}
use Rattle.std.specs.List.{list_all}

-- an unused field holds 65535
abbrev pub unused : List ℕ → Bool
unused fs = list_all (λ f. f == 65535) fs

-- one more citation before those that follow, if these are any
abbrev pub after : ℕ → Option (List ℕ) → Option (List ℕ)
after f None = None
after f (Some fs) = Some (f ∷ fs)

-- the fields that are used, one for each of `parts`; none unless every other field is unused
abbrev pub used : {T : Type 0} → List T → List ℕ → Option (List ℕ)
used [] fs = cond (unused fs) (Some []) None
used (_ ∷ parts) [] = None
used (_ ∷ parts) (f ∷ fs) = after f (used parts fs)

-- three fields that begin with these rows, or with the first three of them
abbrev pub padded : List ℕ → List ℕ
padded rows = take 3 (rows ++ 65535 ∷ 65535 ∷ 65535 ∷ [])
