-- Which rows of a listing cite which: only earlier ones, and none twice.
use Rattle.std.proofs.Common.{◌≡◌, ℕ, zero, suc, ◌+◌, ◌<◌, ◌≤◌, ◌⊎◌, List, [], ◌∷◌, ◌++◌, length, Some, Option, sym, ap, ◌∙◌, inl, inr, arith}
use Rattle.std.specs.List.{slice_get}
use Rattle.screening.specs.Trees.{Forest, bare, plant, size, post, roots, Cites, Lists, tree, Has, Ascending, RowCites, Citations}
use Rattle.screening.proofs.Forests.{length-post}

-- row i of the forest's listing cites row p, where the listing begins at row `base`
abbrev At : {R : Type 0} → ℕ → Forest R → ℕ → ℕ → Type 0
At base bare i p = ⊥
At base (plant q c f) i p = At base c i p ⊎ (((i ≡ base + size c) × Has p (roots base c)) ⊎ At (base + size c + 1) f i p)

-- the roots lie within the listing
roots_within : {R : Type 0} (base : ℕ) (f : Forest R) (p : ℕ) → Has p (roots base f) → (base ≤ p) × (p < base + size f)
roots_within base bare p h = absurd h
roots_within base (plant q c f) p h = grind (arith, roots_within (base + size c + 1) f p)

roots_ascend : {R : Type 0} (base : ℕ) (f : Forest R) → Ascending (roots base f)
roots_ascend base bare = tt
roots_ascend base (plant q c f) =
    (λ p h. omega (arith, roots_within (base + size c + 1) f p h), roots_ascend (base + size c + 1) f)

at_within : {R : Type 0} (base : ℕ) (f : Forest R) (i p : ℕ) → At base f i p → (base ≤ p) × (p < i) × (i < base + size f)
at_within base bare i p h = absurd h
at_within base (plant q c f) i p h =
    grind (arith, at_within base c i p, roots_within base c p, at_within (base + size c + 1) f i p)

-- no row cites a root
not_root : {R : Type 0} (base : ℕ) (f : Forest R) (i p : ℕ) → At base f i p → Has p (roots base f) → ⊥
not_root base bare i p h r = h
not_root base (plant q c f) i p h r =
    grind (arith, at_within base c i p, roots_within base c p, at_within (base + size c + 1) f i p, roots_within (base + size c + 1) f p, not_root (base + size c + 1) f i p)

-- two rows that cite one row are the same
at_once : {R : Type 0} (base : ℕ) (f : Forest R) (i j p : ℕ) → At base f i p → At base f j p → i ≡ j
at_once base bare i j p h k = absurd h
at_once base (plant q c f) i j p h k =
    grind (arith, at_once base c i j p, not_root base c i p, not_root base c j p, at_within base c i p, at_within base c j p, roots_within base c p, at_within (base + size c + 1) f i p, at_within (base + size c + 1) f j p, at_once (base + size c + 1) f i j p)

-- a row of a listing stands before its root, is it, or comes after
nth_cases : {X : Type 0} (xs : List X) (y : X) (ys : List X) (i : ℕ) (x : X) → slice_get (xs ++ y ∷ ys) i ≡ Some x → (slice_get xs i ≡ Some x) ⊎ (((i ≡ length xs) × (y ≡ x)) ⊎ ((j : ℕ) × (i ≡ length xs + 1 + j) × (slice_get ys j ≡ Some x)))
nth_cases [] y ys zero x e = grind arith
nth_cases [] y ys (suc i) x e = grind arith
nth_cases (z ∷ xs) y ys zero x e = inl e
nth_cases (z ∷ xs) y ys (suc i) x e = grind (arith, nth_cases xs y ys i x e)

-- what a row of a listing cites
cites_at : {R : Type 0} (cited : R → Option (List ℕ)) (f : Forest R) (base : ℕ) → Cites cited base f → (i : ℕ) (r : R) → slice_get (post f) i ≡ Some r → (ps : List ℕ) × (cited r ≡ Some ps) × Ascending ps × ((p : ℕ) → Has p ps → At base f (base + i) p)
cites_at cited bare base k i r e = cc
cites_at cited (plant q c f) base k i r e =
    elim (nth_cases (post c) q (post f) i r e) [
      | inl a ↦
          let (ps, known, up, at) = cites_at cited c base k.0 i r a in
          (ps, known, up, λ p h. inl (at p h))
      | inr (inl (n, x)) ↦
          (roots base c, ap cited (sym x) ∙ k.1, roots_ascend base c, λ p h. inr (inl (omega (arith, length-post c), h)))
      | inr (inr (j, n, a)) ↦
          let (ps, known, up, at) = cites_at cited f (base + size c + 1) k.2 j r a in
          (ps, known, up, λ p h. inr (inr (grind (arith, length-post c, at p h))))
    ]

row_cites : {R : Type 0} (cited : R → Option (List ℕ)) (rows : List R) (t : Lists cited rows) (i p : ℕ) → RowCites cited rows i p → At 0 (tree t) i p
row_cites cited rows t i p h =
    let (ps, known, up, at) = cites_at cited (tree t) 0 t.citing i h.row (rw t.listing at h.here) in
    grind (arith, h.known, h.cites, at p)

pub citations : {R : Type 0} (cited : R → Option (List ℕ)) (rows : List R) → Lists cited rows → Citations cited rows
citations cited rows t =
    let at = row_cites cited rows t in
    record {
      known = λ i r e. let (ps, known, up, _) = cites_at cited (tree t) 0 t.citing i r (rw t.listing at e) in (ps, known, up);
      earlier = λ i p h. (at_within 0 (tree t) i p (at i p h)).1;
      once = λ i j p h k. at_once 0 (tree t) i j p (at i p h) (at j p k);
    }
