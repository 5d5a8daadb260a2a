-- The scan of a table, row by row: what a turn of the loop keeps, and what an accepted row has.
use Rattle.std.proofs.Common.{◌≡◌, ℕ, ◌+◌, ◌-◌, ◌<◌, ◌≤◌, ◌⊎◌, List, [], ◌∷◌, ◌++◌, length, get_or, take, drop, set, Some, Ok, Err, Option, Result, sym, refl, ap, ◌∙◌, inl, inr, arith}
use Rattle.std.proofs.lemmas.Bool.Decides.{nat_tests}
use Rattle.std.proofs.lemmas.Grind.{common_steps, drop_more_same}
use Rattle.std.proofs.lemmas.List.{at_drop_more, at_drop_all, take_more_set, drop-set-lt, append_assoc, append-nil}
use Rattle.screening.specs.declared.fault.ScreenFault.{ScreenFault}
use Rattle.screening.specs.Screening.{told, with_row, Bounded, before, laid, total, next_span, with_span, whole, scan, room_for, Screened, screened}

pub cases_result : {T E : Type 0} (r : Result T E) → ((x : T) × (r ≡ Ok x)) ⊎ ((e : E) × (r ≡ Err e))
cases_result (Ok x) = inl (x, refl)
cases_result (Err e) = inr (e, refl)

pub told_ok : (o : Result ℕ ScreenFault) → Ok tt ≡ told o → (s : ℕ) × (o ≡ Ok s)
told_ok o e = grind arith

pub told_err : (o : Result ℕ ScreenFault) (fault : ScreenFault) → Err fault ≡ told o → o ≡ Err fault
told_err o fault e = grind arith

-- one citation that is where it has to be
pub before_is : (done : List ℕ) (p : ℕ) (o : Option ℕ) (m : ℕ) → before done p o ≡ Some m → (n : ℕ) × (o ≡ Some n) × (p + 1 ≡ n) × (m ≡ n - get_or done p 0)
before_is done p o m e = grind (arith, nat_tests)

-- the trees that are cited fill the rows from where they begin
pub laid-total : (done : List ℕ) (n : ℕ) → Bounded done → n ≤ length done → (ps : List ℕ) (m : ℕ) → laid done n ps ≡ Some m → m + total done ps ≡ n
laid-total done n b l [] m e = grind arith
laid-total done n b l (p ∷ ps) m e =
    grind (arith, b, before_is done p (laid done n ps) m e, laid-total done n b l ps)

-- the span of a row whose trees begin at `start`
pub start_le : (done ps : List ℕ) (start : ℕ) → Bounded done → Some start ≡ laid done (length done) ps → start ≤ length done
start_le done ps start b e = grind (arith, laid-total done (length done) b)

pub span_at : (done ps : List ℕ) (start : ℕ) → Bounded done → Some start ≡ laid done (length done) ps → Ok (length done - start + 1) ≡ next_span (Some ps) done
span_at done ps start b e =
    grind (arith, laid-total done (length done) b)

-- what a row that has a span cites, and where the trees of those rows begin
pub record Placed (c : Option (List ℕ)) (done : List ℕ) (s : ℕ) : Type 0 where
  pub cites : List ℕ
  pub known : c ≡ Some cites
  pub start : ℕ
  pub laid_down : laid done (length done) cites ≡ Some start
  pub sum : 1 + total done cites ≡ s

pub placed : (c : Option (List ℕ)) (done : List ℕ) (s : ℕ) → next_span c done ≡ Ok s → Placed c done s
placed c done s e = grind arith

-- one more row that was given a span
pub bounded_more : (done : List ℕ) (s : ℕ) → Bounded done → s ≤ length done + 1 → Bounded (done ++ s ∷ [])
bounded_more done s b h k l = grind (arith, common_steps)

pub bounded_next : (c : Option (List ℕ)) (done : List ℕ) (s : ℕ) → Bounded done → next_span c done ≡ Ok s → Bounded (done ++ s ∷ [])
bounded_next c done s b e =
    bounded_more done s b (grind (arith, laid-total done (length done) b, placed c done s e))

-- What a scan writes begins with what was written before it, and it adds no more than there are rows.
pub record Further (done written : List ℕ) (rows : ℕ) : Type 0 where
  pub more : List ℕ
  pub is : written ≡ done ++ more
  pub within : length more ≤ rows

pub scan_front : {R : Type 0} (cited : R → Option (List ℕ)) (rs : List R) (done : List ℕ) → Further done (scan cited rs done).written (length rs)
scan_front cited [] done = record { more = []; is = sym (append-nil done); within = omega arith }
scan_front cited (r ∷ rs) done =
    elim (cases_result (next_span (cited r) done)) [
      | inl (s, o) ↦
          let h = scan_front cited rs (done ++ s ∷ []) in
          rw o (record { more = s ∷ h.more; is = h.is ∙ append_assoc done (s ∷ []) h.more; within = omega (arith, h.within) })
      | inr (fault, o) ↦ rw o (record { more = []; is = sym (append-nil done); within = omega arith })
    ]

-- After i rows: what is left gives the whole, and nothing past row i is written.
pub record Scanned {R : Type 0} (cited : R → Option (List ℕ)) (rows : List R) (memory : List ℕ) (i : ℕ) (spans : List ℕ) : Type 0 where
  pub left : scan cited (drop i rows) (take i spans) ≡ scan cited rows []
  pub rest : drop i spans ≡ drop i memory
  pub bounded : Bounded (take i spans)

-- the scan at row i, where its span is o
abbrev pub from_row : {R : Type 0} → (R → Option (List ℕ)) → List R → ℕ → List ℕ → Result ℕ ScreenFault → Screened
from_row cited rows i spans o = with_span (take i spans) o (λ s. scan cited (drop (i + 1) rows) (take i spans ++ s ∷ []))

-- the scan, at the row after those that were scanned
pub here : {R : Type 0} (cited : R → Option (List ℕ)) (rows : List R) (memory : List ℕ) (i : ℕ) (spans : List ℕ) → Scanned cited rows memory i spans → (r : R) → i < length rows → r ≡ get_or rows i r → scan cited rows [] ≡ from_row cited rows i spans (next_span (cited r) (take i spans))
here cited rows memory i spans inv r l e =
    let f : scan cited (drop i rows) (take i spans) ≡ from_row cited rows i spans (next_span (cited (get_or rows i r)) (take i spans)) = at_drop_more (λ rs. scan cited rs (take i spans)) rows i r l in
    sym inv.left ∙ f ∙ ap (λ x. from_row cited rows i spans (next_span (cited x) (take i spans))) (sym e)

pub scanned_more : {R : Type 0} (cited : R → Option (List ℕ)) (rows : List R) (memory : List ℕ) (i : ℕ) (spans : List ℕ) → Scanned cited rows memory i spans → (r : R) → i < length rows → i < length spans → r ≡ get_or rows i r → (after : List ℕ) → Ok tt ≡ told (next_span (cited r) (take i spans)) → after ≡ with_row spans i (next_span (cited r) (take i spans)) → Scanned cited rows memory (i + 1) after
scanned_more cited rows memory i spans inv r l m e after t w =
    let (s, o) = told_ok (next_span (cited r) (take i spans)) t in
    let a : after ≡ set spans i s = w ∙ ap (with_row spans i) o in
    let h : take (i + 1) after ≡ take i spans ++ s ∷ [] = ap (take (i + 1)) a ∙ take_more_set spans i s m in
    record {
      left = rw h (sym (here cited rows memory i spans inv r l e ∙ ap (from_row cited rows i spans) o));
      rest = ap (drop (i + 1)) a ∙ drop-set-lt (i + 1) spans i s (omega arith) ∙ drop_more_same spans memory i inv.rest;
      bounded = rw h (bounded_next (cited r) (take i spans) s inv.bounded o);
    }

-- what the scan gives, where no row is left
pub scanned_all : {R : Type 0} (cited : R → Option (List ℕ)) (rows : List R) (memory : List ℕ) (i : ℕ) (spans : List ℕ) → Scanned cited rows memory i spans → length rows ≤ i → scan cited rows [] ≡ record { answer = whole (take i spans); written = take i spans }
scanned_all cited rows memory i spans inv e = sym inv.left ∙ at_drop_all (λ rs. scan cited rs (take i spans)) rows i e

-- where the loop stops: the answer, and what the memory then holds
pub record Stopped {R : Type 0} (cited : R → Option (List ℕ)) (limit : ℕ) (rows : List R) (memory spans : List ℕ) (a : Result (Unit {0}) ScreenFault) : Type 0 where
  pub answer : a ≡ (screened cited limit rows memory).answer
  pub written : spans ≡ (screened cited limit rows memory).written

over_rest : (i : ℕ) (spans memory : List ℕ) → drop i spans ≡ drop i memory → i ≤ length spans → spans ≡ take i spans ++ drop (length (take i spans)) memory
over_rest i spans memory r m = grind (arith, common_steps)

pub stopped : {R : Type 0} (cited : R → Option (List ℕ)) (limit : ℕ) (rows : List R) (memory : List ℕ) (i : ℕ) (spans : List ℕ) → Scanned cited rows memory i spans → Ok tt ≡ room_for limit (length rows) (length memory) → i ≤ length spans → (a : Result (Unit {0}) ScreenFault) → scan cited rows [] ≡ record { answer = a; written = take i spans } → Stopped cited limit rows memory spans a
stopped cited limit rows memory i spans inv room m a e =
    record { answer = rw (← room, e); written = rw (← room, e) (over_rest i spans memory inv.rest m) }

pub stopped_at_row : {R : Type 0} (cited : R → Option (List ℕ)) (limit : ℕ) (rows : List R) (memory : List ℕ) (i : ℕ) (spans : List ℕ) → Scanned cited rows memory i spans → Ok tt ≡ room_for limit (length rows) (length memory) → (r : R) → i < length rows → i < length spans → r ≡ get_or rows i r → (fault : ScreenFault) → Err fault ≡ told (next_span (cited r) (take i spans)) → (after : List ℕ) → after ≡ with_row spans i (next_span (cited r) (take i spans)) → Stopped cited limit rows memory after (Err fault)
stopped_at_row cited limit rows memory i spans inv room r l m e fault t after w =
    let o = told_err (next_span (cited r) (take i spans)) fault t in
    rw (w, o) (stopped cited limit rows memory i spans inv room (omega arith) (Err fault) (here cited rows memory i spans inv r l e ∙ rw o))

pub stopped_at_end : {R : Type 0} (cited : R → Option (List ℕ)) (limit : ℕ) (rows : List R) (memory : List ℕ) (i : ℕ) (spans : List ℕ) → Scanned cited rows memory i spans → Ok tt ≡ room_for limit (length rows) (length memory) → length rows ≡ i → i ≤ length spans → (a : Result (Unit {0}) ScreenFault) → a ≡ whole (take (length rows) spans) → Stopped cited limit rows memory spans a
stopped_at_end cited limit rows memory i spans inv room n m a e =
    rw (e, n) (stopped cited limit rows memory i spans inv room m (whole (take i spans)) (scanned_all cited rows memory i spans inv (omega arith)))
