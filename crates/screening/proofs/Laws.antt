-- What screening accepts is exactly what lists one tree; a refusal says how far the rows list trees.
use Rattle.std.proofs.Common.{◌≡◌, ℕ, ◌+◌, ◌-◌, ◌<◌, ◌⊎◌, List, [], ◌∷◌, ◌++◌, length, take, drop, Some, None, Ok, Err, Option, Result, sym, refl, ap, ◌∙◌, inl, inr, arith}
use Rattle.std.proofs.lemmas.Bool.Decides.{nat_tests}
use Rattle.std.proofs.lemmas.Grind.{common_steps}
use Rattle.std.proofs.lemmas.List.{length_push, append_assoc, length-append, take_at}
use Rattle.std.proofs.lemmas.Option.{get_or_from_slice_get}
use Rattle.std.specs.List.{slice_get}
use Rattle.screening.specs.declared.fault.ScreenFault.{ScreenFault}
use Rattle.screening.specs.declared.fault.ScreenFault.TheVariants.{Size, Memory, Malformed, Citation, SeveralTrees}
use Rattle.screening.specs.Screening.{next_span, whole, scan, room_for, screened}
use Rattle.screening.specs.Trees.{bare, post, spans_of, tree, StopsAt, ScreeningLaw}
use Rattle.screening.proofs.Scans.{cases_result, scan_front}
use Rattle.screening.proofs.Forests.{length-spans_of, length-post, scan-post}
use Rattle.screening.proofs.Citing.{citations}
use Rattle.screening.proofs.Growth.{Through, Halfway, progress, room_is, is_room, only_tree, tree-scan}
use Rattle.screening.proofs.Unique.{one_tree}

-- the faults that each part of screening has
pub room_size : (limit n memory : ℕ) → room_for limit n memory ≡ Err Size → (n ≡ 0) ⊎ (limit < n)
room_size limit n memory e = grind (arith, nat_tests)

pub room_memory : (limit n memory : ℕ) → room_for limit n memory ≡ Err Memory → memory < n
room_memory limit n memory e = grind (arith, nat_tests)

pub room_fault : (limit n memory : ℕ) (fault : ScreenFault) → room_for limit n memory ≡ Err fault → (fault ≡ Size) ⊎ (fault ≡ Memory)
room_fault limit n memory fault e = grind (arith, nat_tests)

pub whole_fault : (done : List ℕ) (fault : ScreenFault) → whole done ≡ Err fault → fault ≡ SeveralTrees (length done - 1)
whole_fault done fault e = grind (arith, nat_tests)

pub next_fault : (c : Option (List ℕ)) (done : List ℕ) (fault : ScreenFault) → next_span c done ≡ Err fault → ((fault ≡ Malformed (length done)) × (c ≡ None)) ⊎ ((fault ≡ Citation (length done)) × (c ≡ None → ⊥))
next_fault c done fault e = grind arith

-- where the scan stopped at a row
pub record StoppedRow {R : Type 0} (cited : R → Option (List ℕ)) (rows : List R) (memory : List ℕ) (h : Halfway cited rows bare) (i : ℕ) : Type 0 where
  pub stops : StopsAt cited rows memory (spans_of h.forest ++ drop (length (spans_of h.forest)) memory) i
  pub row_is : (r : R) → slice_get rows i ≡ Some r → r ≡ h.row

pub stopped_row : {R : Type 0} (cited : R → Option (List ℕ)) (rows : List R) (memory : List ℕ) (h : Halfway cited rows bare) (i : ℕ) → i ≡ length (spans_of h.forest) → StoppedRow cited rows memory h i
stopped_row cited rows memory h i m =
    let f = h.forest in
    let p : length h.passed ≡ i = omega (arith, ap length h.listing, length-post f, length-spans_of f) in
    let q : length (h.passed ++ h.row ∷ []) ≡ i + 1 = omega (arith, length_push h.passed h.row) in
    let r : rows ≡ (h.passed ++ h.row ∷ []) ++ h.left = h.parts ∙ simp append_assoc in
    let w : i < length rows = omega (arith, ap length r, length-append (h.passed ++ h.row ∷ []) h.left) in
    record {
      stops = record {
        within = w;
        before = record { forest = f; listing = ap (take i) h.parts ∙ take_at h.passed (h.row ∷ h.left) i p ∙ sym h.listing; citing = h.citing };
        sizes = rw m;
        no_more = λ t.
            let g = t.forest in
            let x : post g ≡ h.passed ++ h.row ∷ [] = sym t.listing ∙ ap (take (i + 1)) r ∙ take_at (h.passed ++ h.row ∷ []) h.left (i + 1) q in
            let s : scan cited rows [] ≡ scan cited h.left (spans_of g) = rw (r, ← x) (scan-post cited g h.left [] 0 refl t.citing) in
            let l = scan_front cited h.left (spans_of g) in
            let v : spans_of f ≡ spans_of g ++ l.more = ap (λ x. x.written) (sym h.ends ∙ s) ∙ l.is in
            grind (arith, common_steps, v, x, length-spans_of g, length-post g);
      };
      row_is = λ x e. grind (arith, common_steps, h.parts, get_or_from_slice_get rows i x h.row e);
    }

-- where there is no room
pub without_room : {R : Type 0} (cited : R → Option (List ℕ)) (limit : ℕ) (rows : List R) (memory : List ℕ) (fault : ScreenFault) → room_for limit (length rows) (length memory) ≡ Err fault → ScreeningLaw cited limit rows memory (Err fault) memory
without_room cited limit rows memory fault e =
    let q = room_fault limit (length rows) (length memory) fault e in
    record {
      only = λ k. cc;
      every = λ t a b. sym e ∙ is_room limit (length rows) (length memory) (omega (arith, ap length t.listing, length-post (tree t))) a b;
      sizes = λ k t. cc;
      one = one_tree cited rows;
      citing = λ k. cc;
      wrong_size = λ k. (room_size limit (length rows) (length memory) (e ∙ k), refl);
      wrong_memory = λ k. (room_memory limit (length rows) (length memory) (e ∙ k), refl);
      malformed = λ i k. grind arith;
      miscited = λ i k. grind arith;
      several = λ i k. grind arith;
    }

-- where the scan came through
pub came_through : {R : Type 0} (cited : R → Option (List ℕ)) (limit : ℕ) (rows : List R) (memory : List ℕ) → room_for limit (length rows) (length memory) ≡ Ok tt → (t : Through cited rows bare) → ScreeningLaw cited limit rows memory (whole (spans_of t.forest)) (spans_of t.forest ++ drop (length (spans_of t.forest)) memory)
came_through cited limit rows memory room t =
    let r = room_is limit (length rows) (length memory) room in
    let f = t.forest in
    let n : length (spans_of f) ≡ length rows = omega (arith, length-spans_of f, length-post f, ap length t.listing) in
    record {
      only = λ e. (only_tree cited rows f r.some t.listing t.citing e, r.short, r.room);
      every = λ u a b. ap (λ x. x.answer) (sym t.ends ∙ tree-scan cited rows u);
      sizes = λ e u. let w : spans_of f ≡ spans_of (tree u) = ap (λ x. x.written) (sym t.ends ∙ tree-scan cited rows u) in rw (n, w);
      one = one_tree cited rows;
      citing = λ e. citations cited rows (only_tree cited rows f r.some t.listing t.citing e);
      wrong_size = λ k. grind (arith, nat_tests);
      wrong_memory = λ k. grind (arith, nat_tests);
      malformed = λ i k. grind (arith, nat_tests);
      miscited = λ i k. grind (arith, nat_tests);
      several = λ i k.
          let q = whole_fault (spans_of f) (SeveralTrees i) k in
          let last : i ≡ length (spans_of f) - 1 = cc in
          record {
            last = omega arith;
            trees = record { forest = f; listing = sym t.listing; citing = t.citing };
            sizes = rw n;
            not_one = λ u. let no = ap (λ x. x.answer) (sym t.ends ∙ tree-scan cited rows u) in cc;
          };
    }

-- where it stopped at a row
pub came_halfway : {R : Type 0} (cited : R → Option (List ℕ)) (limit : ℕ) (rows : List R) (memory : List ℕ) (h : Halfway cited rows bare) → ScreeningLaw cited limit rows memory (Err h.fault) (spans_of h.forest ++ drop (length (spans_of h.forest)) memory)
came_halfway cited limit rows memory h =
    let q = next_fault (cited h.row) (spans_of h.forest) h.fault h.refused in
    record {
      only = λ e. cc;
      every = λ u a b. ap (λ x. x.answer) (sym h.ends ∙ tree-scan cited rows u);
      sizes = λ e u. cc;
      one = one_tree cited rows;
      citing = λ e. cc;
      wrong_size = λ k. grind arith;
      wrong_memory = λ k. grind arith;
      malformed = λ i k.
          let (m, none) : (i ≡ length (spans_of h.forest)) × (cited h.row ≡ None) = grind arith in
          let s = stopped_row cited rows memory h i m in
          (s.stops, λ r e. ap cited (s.row_is r e) ∙ none);
      miscited = λ i k.
          let (m, some) : (i ≡ length (spans_of h.forest)) × (cited h.row ≡ None → ⊥) = grind arith in
          let s = stopped_row cited rows memory h i m in
          (s.stops, λ r e n. some (ap cited (sym (s.row_is r e)) ∙ n));
      several = λ i k. grind arith;
    }

pub screening_law : {R : Type 0} (cited : R → Option (List ℕ)) (limit : ℕ) (rows : List R) (memory : List ℕ) → ScreeningLaw cited limit rows memory (screened cited limit rows memory).answer (screened cited limit rows memory).written
screening_law cited limit rows memory =
    elim (cases_result (room_for limit (length rows) (length memory))) [
      | inl (_, room) ↦
          elim (progress cited rows bare tt) [
            | inl t ↦ rw (room, t.ends) (came_through cited limit rows memory room t)
            | inr h ↦ rw (room, h.ends) (came_halfway cited limit rows memory h)
          ]
      | inr (fault, room) ↦ rw room (without_room cited limit rows memory fault room)
    ]

-- what a call answers and leaves has the law, where both are those of the definition
pub law_of : {R : Type 0} (cited : R → Option (List ℕ)) (limit : ℕ) (rows : List R) (memory : List ℕ) (answer : Result (Unit {0}) ScreenFault) (written : List ℕ) → answer ≡ (screened cited limit rows memory).answer → written ≡ (screened cited limit rows memory).written → ScreeningLaw cited limit rows memory answer written
law_of cited limit rows memory answer written a w = rw (a, w) (screening_law cited limit rows memory)
