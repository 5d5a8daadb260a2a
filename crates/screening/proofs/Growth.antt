-- How far the rows of a table list trees: each row that has a span takes the last trees below it.
use Rattle.std.proofs.Common.{◌≡◌, ℕ, ◌+◌, ◌<◌, ◌≤◌, ◌⊎◌, List, [], ◌∷◌, ◌++◌, length, Some, Ok, Err, Option, sym, refl, ap, ◌∙◌, inl, inr, arith}
use Rattle.std.proofs.lemmas.Bool.Decides.{nat_tests}
use Rattle.std.proofs.lemmas.Grind.{common_steps}
use Rattle.std.proofs.lemmas.List.{length-append, append_assoc, append-nil}
use Rattle.screening.specs.declared.fault.ScreenFault.{ScreenFault}
use Rattle.screening.specs.Screening.{next_span, whole, scan, room_for, Fits}
use Rattle.screening.specs.Trees.{Forest, bare, plant, size, post, spans_of, roots, Cites, Lists, tree}
use Rattle.screening.proofs.Scans.{cases_result, placed}
use Rattle.screening.proofs.Forests.{join, post-join, spans_of-join, length-spans_of, length-post, cites_join, join_cites, apart, roots_laid, scan-post, size_zero, split}

-- one more row: it takes the trees that it names below it
pub record More {R : Type 0} (cited : R → Option (List ℕ)) (f : Forest R) (r : R) (s : ℕ) : Type 0 where
  pub forest : Forest R
  pub listing : post forest ≡ post f ++ r ∷ []
  pub citing : Cites cited 0 forest
  pub sized_as : spans_of forest ≡ spans_of f ++ s ∷ []

more_at : {R : Type 0} (cited : R → Option (List ℕ)) (f g h : Forest R) → f ≡ join g h → Cites cited 0 f → (r : R) → cited r ≡ Some (roots (0 + size g) h) → (s : ℕ) → size h + 1 ≡ s → More cited f r s
more_at cited f g h e k r known s u =
    let (a, b) = cites_join cited 0 g h (rw e at k) in
    record {
      forest = join g (plant r h bare);
      listing = rw e (simp (post-join, append_assoc));
      citing = join_cites cited 0 g (plant r h bare) a (b, known, tt);
      sized_as = rw (e, ← u) (simp (spans_of-join, append_assoc));
    }

pub more_by : {R : Type 0} (cited : R → Option (List ℕ)) (f : Forest R) → Cites cited 0 f → (r : R) (s : ℕ) → next_span (cited r) (spans_of f) ≡ Ok s → More cited f r s
more_by cited f k r s t =
    let p = placed (cited r) (spans_of f) s t in
    let d = split f (length (spans_of f)) (length-spans_of f) p.cites p.start p.laid_down in
    more_at cited f d.earlier d.named d.is k r (grind (arith, d.cites, d.at, p.known)) s (grind (arith, common_steps, d.is, d.at, d.cites, p.sum, spans_of-join d.earlier d.named, length-spans_of, roots_laid (spans_of d.earlier) d.named (spans_of f)))

-- the scan came to the end of the rows
pub record Through {R : Type 0} (cited : R → Option (List ℕ)) (rs : List R) (f : Forest R) : Type 0 where
  pub forest : Forest R
  pub listing : post forest ≡ post f ++ rs
  pub citing : Cites cited 0 forest
  pub ends : scan cited rs (spans_of f) ≡ record { answer = whole (spans_of forest); written = spans_of forest }

-- the scan stopped at a row
pub record Halfway {R : Type 0} (cited : R → Option (List ℕ)) (rs : List R) (f : Forest R) : Type 0 where
  pub forest : Forest R
  pub passed : List R
  pub row : R
  pub left : List R
  pub parts : rs ≡ passed ++ row ∷ left
  pub listing : post forest ≡ post f ++ passed
  pub citing : Cites cited 0 forest
  pub fault : ScreenFault
  pub refused : next_span (cited row) (spans_of forest) ≡ Err fault
  pub ends : scan cited rs (spans_of f) ≡ record { answer = Err fault; written = spans_of forest }

abbrev pub Progress : {R : Type 0} → (R → Option (List ℕ)) → List R → Forest R → Type 0
Progress cited rs f = Through cited rs f ⊎ Halfway cited rs f

-- the progress from one more row on
pub onward : {R : Type 0} (cited : R → Option (List ℕ)) (r : R) (rs : List R) (f : Forest R) (s : ℕ) (m : More cited f r s) → next_span (cited r) (spans_of f) ≡ Ok s → Progress cited rs m.forest → Progress cited (r ∷ rs) f
onward cited r rs f s m o p =
    let e : scan cited (r ∷ rs) (spans_of f) ≡ scan cited rs (spans_of m.forest) = rw (o, m.sized_as) in
    let l : (xs : List _) → post m.forest ++ xs ≡ post f ++ (r ∷ xs) = λ xs. rw (m.listing, append_assoc) in
    elim p [
      | inl t ↦ inl (record { forest = t.forest; listing = t.listing ∙ l rs; citing = t.citing; ends = e ∙ t.ends })
      | inr h ↦
          inr (record {
            forest = h.forest;
            passed = r ∷ h.passed;
            row = h.row;
            left = h.left;
            parts = ap (λ x. r ∷ x) h.parts;
            listing = h.listing ∙ l h.passed;
            citing = h.citing;
            fault = h.fault;
            refused = h.refused;
            ends = e ∙ h.ends;
          })
    ]

pub progress : {R : Type 0} (cited : R → Option (List ℕ)) (rs : List R) (f : Forest R) → Cites cited 0 f → Progress cited rs f
progress cited [] f k = inl (record { forest = f; listing = sym (append-nil (post f)); citing = k; ends = refl })
progress cited (r ∷ rs) f k =
    elim (cases_result (next_span (cited r) (spans_of f))) [
      | inl (s, o) ↦ let m = more_by cited f k r s o in onward cited r rs f s m o (progress cited rs m.forest m.citing)
      | inr (fault, o) ↦
          inr (record {
            forest = f;
            passed = [];
            row = r;
            left = rs;
            parts = refl;
            listing = sym (append-nil (post f));
            citing = k;
            fault = fault;
            refused = o;
            ends = rw o;
          })
    ]

-- past the two tests of sizes
pub room_is : (limit n memory : ℕ) → room_for limit n memory ≡ Ok tt → Fits limit n memory
room_is limit n memory e = grind (arith, nat_tests)

pub is_room : (limit n memory : ℕ) → 0 < n → n ≤ limit → n ≤ memory → room_for limit n memory ≡ Ok tt
is_room limit n memory a b d = grind (arith, nat_tests)

-- where every row has a span, the last one is the number of rows exactly where they list one tree
pub whole_is : (done : List ℕ) (s : ℕ) → whole (done ++ s ∷ []) ≡ Ok tt → s ≡ length done + 1
whole_is done s h = grind (arith, nat_tests, common_steps)

is_whole : (done : List ℕ) (s : ℕ) → s ≡ length done + 1 → whole (done ++ s ∷ []) ≡ Ok tt
is_whole done s h = grind (arith, nat_tests, common_steps)

pub only_tree : {R : Type 0} (cited : R → Option (List ℕ)) (rows : List R) (f : Forest R) → 0 < length rows → post f ≡ rows → Cites cited 0 f → whole (spans_of f) ≡ Ok tt → Lists cited rows
only_tree cited rows f z p k e =
    let a = apart f (omega (arith, length-post f, ap length p)) in
    let v = whole_is (spans_of a.earlier ++ spans_of a.below) (size a.below + 1) (rw a.spans at e) in
    let g : a.earlier ≡ bare = size_zero a.earlier (omega (arith, length-append {A = ℕ}, length-spans_of a.earlier, length-spans_of a.below)) in
    let t : f ≡ plant a.root a.below bare = a.is ∙ ap (λ x. join x (plant a.root a.below bare)) g in
    record { root = a.root; below = a.below; listing = sym p ∙ ap post t; citing = rw t at k }

-- the scan of rows that list one tree
pub tree-scan : {R : Type 0} (cited : R → Option (List ℕ)) (rows : List R) (t : Lists cited rows) → scan cited rows [] ≡ record { answer = Ok tt; written = spans_of (tree t) }
tree-scan cited rows t =
    let f = tree t in
    let w = is_whole (spans_of t.below) (size t.below + 1) (omega (arith, length-spans_of t.below)) in
    ap (λ x. scan cited x []) (t.listing ∙ sym (append-nil (post f))) ∙ scan-post cited f [] [] 0 refl t.citing ∙ rw w
