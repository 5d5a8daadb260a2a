-- The scan of a table whose spans are held: each turn of its loop, and what it says of the screening.
use Rattle.std.proofs.Common.{◌≡◌, ℕ, ◌+◌, ◌<◌, ◌≤◌, true, eqb, ◌⊎◌, List, [], ◌∷◌, ◌++◌, length, get_or, take, drop, is_ok, IfOk, Ok, Err, Option, Result, sym, refl, ap, ◌∙◌, inl, inr, arith}
use Rattle.std.proofs.lemmas.Result.{IfOk-at_ok}
use Rattle.std.proofs.lemmas.Bool.{cases_Bool, eqb-true, eqb-false, eq-eqb}
use Rattle.std.proofs.lemmas.Bool.Decides.{nat_tests}
use Rattle.std.proofs.lemmas.Grind.{common_steps}
use Rattle.std.proofs.lemmas.List.{at_drop_more, at_drop_all, set-get_or, take_more, take-append-le, length-take-le, append-nil, length_push, get_or_append_left, drop_all}
use Rattle.std.specs.Result.{result_and}
use Rattle.screening.specs.declared.fault.ScreenFault.{ScreenFault}
use Rattle.screening.specs.declared.fault.ScreenFault.TheVariants.{Citation}
use Rattle.screening.specs.Screening.{Screened, next_span, whole, scan, room_for, Fits, screened}
use Rattle.screening.specs.Spans.{held_span, rescan, confirmed, Accepted, TableLaw, DiffersAt, Unconfirmed, SpansLaw}
use Rattle.screening.proofs.Scans.{cases_result, scan_front, Scanned, scanned_more, scanned_all}
use Rattle.screening.specs.Trees.{size, spans_of, Lists, tree}
use Rattle.screening.proofs.Growth.{room_is, is_room, tree-scan}
use Rattle.screening.proofs.Laws.{screening_law}
use Rattle.screening.proofs.Forests.{length-spans_of, length-post}

-- After i rows: what is left gives the whole, of the screening too.
pub record Rescanned {R : Type 0} (cited : R → Option (List ℕ)) (rows : List R) (i : ℕ) (spans : List ℕ) : Type 0 where
  pub left : rescan cited (drop i rows) (take i spans) spans ≡ rescan cited rows [] spans
  pub scanned : Scanned cited rows spans i spans

-- row i, with the span that is held for it
pub at_row : {R : Type 0} (cited : R → Option (List ℕ)) (rows : List R) (i : ℕ) (spans : List ℕ) → Rescanned cited rows i spans → (r : R) → i < length rows → i < length spans → r ≡ get_or rows i r → rescan cited rows [] spans ≡ result_and (held_span (length (take i spans)) (get_or spans i 0) (next_span (cited r) (take i spans))) (rescan cited (drop (i + 1) rows) (take (i + 1) spans) spans)
at_row cited rows i spans inv r l m e =
    let f : rescan cited (drop i rows) (take i spans) spans ≡ rescan cited (get_or rows i r ∷ drop (i + 1) rows) (take i spans) spans = at_drop_more (λ rs. rescan cited rs (take i spans) spans) rows i r l in
    sym inv.left ∙ f ∙ rw (← e, length-take-le i spans (omega arith), take_more spans i 0 m)

-- a span that is held as it should be
pub held_is : (row held : ℕ) (o : Result ℕ ScreenFault) → Ok tt ≡ held_span row held o → o ≡ Ok held
held_is row held o e = grind (arith, nat_tests)

pub rescanned_more : {R : Type 0} (cited : R → Option (List ℕ)) (rows : List R) (i : ℕ) (spans : List ℕ) → Rescanned cited rows i spans → (r : R) → i < length rows → i < length spans → r ≡ get_or rows i r → Ok tt ≡ held_span (length (take i spans)) (get_or spans i 0) (next_span (cited r) (take i spans)) → Rescanned cited rows (i + 1) spans
rescanned_more cited rows i spans inv r l m e h =
    let o = held_is (length (take i spans)) (get_or spans i 0) (next_span (cited r) (take i spans)) h in
    record {
      left = sym (at_row cited rows i spans inv r l m e ∙ rw (← h));
      scanned = scanned_more cited rows spans i spans inv.scanned r l m e spans (rw o) (rw (o, set-get_or spans i 0));
    }

-- a row whose span is held as another, or that has none
pub refused_row : {R : Type 0} (cited : R → Option (List ℕ)) (limit : ℕ) (rows : List R) (i : ℕ) (spans : List ℕ) → Rescanned cited rows i spans → Ok tt ≡ room_for limit (length rows) (length spans) → (r : R) → i < length rows → i < length spans → r ≡ get_or rows i r → (fault : ScreenFault) → Err fault ≡ held_span (length (take i spans)) (get_or spans i 0) (next_span (cited r) (take i spans)) → Err fault ≡ confirmed cited limit rows spans
refused_row cited limit rows i spans inv room r l m e fault h = sym (rw (← room) (at_row cited rows i spans inv r l m e ∙ rw (← h)))

pub is_ok_gives : {E : Type 0} (r : Result (Unit {0}) E) → is_ok r ≡ true → r ≡ Ok tt
is_ok_gives r e = grind arith

-- what is known where the loop came to its end
pub accepted_made : {R : Type 0} (cited : R → Option (List ℕ)) (limit : ℕ) (rows : List R) (spans : List ℕ) → Fits limit (length rows) (length spans) → scan cited rows [] ≡ record { answer = whole (take (length rows) spans); written = take (length rows) spans } → (r : Result (Unit {0}) ScreenFault) → r ≡ whole (take (length rows) spans) → IfOk r (λ _. Accepted cited limit rows (take (length rows) spans))
accepted_made cited limit rows spans fits s (Ok _) e =
    let n = length-take-le (length rows) spans fits.room in
    let room = is_room limit (length rows) (length (take (length rows) spans)) fits.some fits.short (omega arith) in
    (rw (room, s, ← e), rw (room, s, drop_all (length (take (length rows) spans)) (take (length rows) spans) (omega arith), append-nil), n)
accepted_made cited limit rows spans fits s (Err fault) e = tt

-- where the spans held are those that the scan writes, both answer alike
pub rescan_agrees : {R : Type 0} (cited : R → Option (List ℕ)) (rs : List R) (done rest held : List ℕ) → held ≡ (scan cited rs done).written ++ rest → rescan cited rs done held ≡ (scan cited rs done).answer
rescan_agrees cited [] done rest held e = refl
rescan_agrees cited (r ∷ rs) done rest held e =
    elim (cases_result (next_span (cited r) done)) [
      | inl (s, o) ↦
          let k : held ≡ (scan cited rs (done ++ s ∷ [])).written ++ rest = rw o at e in
          let h = scan_front cited rs (done ++ s ∷ []) in
          let v : get_or held (length done) 0 ≡ s = grind (arith, common_steps, k, h.is) in
          rw (v, o, eq-eqb s s refl) (rescan_agrees cited rs (done ++ s ∷ []) rest held k)
      | inr (fault, o) ↦ rw o
    ]

-- after a screening its answer is confirmed
pub screened_confirmed : {R : Type 0} (cited : R → Option (List ℕ)) (limit : ℕ) (rows : List R) (memory spans : List ℕ) → spans ≡ (screened cited limit rows memory).written → confirmed cited limit rows spans ≡ (screened cited limit rows memory).answer
screened_confirmed cited limit rows memory spans e =
    elim (cases_result (room_for limit (length rows) (length memory))) [
      | inl (_, room) ↦
          let fits = room_is limit (length rows) (length memory) room in
          let written = (scan cited rows []).written in
          let w : spans ≡ written ++ drop (length written) memory = rw room at e in
          let l = scan_front cited rows [] in
          let n : length spans ≡ length memory = grind (arith, common_steps, w, l.is, l.within, fits.room) in
          rw (n, room) (rescan_agrees cited rows [] (drop (length written) memory) spans w)
      | inr (fault, room) ↦ let w : spans ≡ memory = rw room at e in rw (w, room)
    ]

-- what is known of a table that is accepted
pub table_law : {R : Type 0} (cited : R → Option (List ℕ)) (limit : ℕ) (rows : List R) (spans : List ℕ) → Accepted cited limit rows spans → TableLaw cited limit rows spans
table_law cited limit rows spans a =
    let h = screening_law cited limit rows spans in
    let ok = is_ok_gives (screened cited limit rows spans).answer a.0 in
    let (t, short, _) = h.only ok in
    record {
      short = short;
      lists = t;
      sizes = grind (arith, common_steps, a.1, a.2, h.sizes ok t, append-nil, drop_all);
      one = λ u. h.one u t;
      citing = h.citing ok;
    }

-- what lists a tree, with its sizes at the front of the spans, is confirmed
pub tree_confirmed : {R : Type 0} (cited : R → Option (List ℕ)) (limit : ℕ) (rows : List R) (held : List ℕ) (t : Lists cited rows) → length rows ≤ limit → (rest : List ℕ) → held ≡ spans_of (tree t) ++ rest → confirmed cited limit rows held ≡ Ok tt
tree_confirmed cited limit rows held t short rest e =
    let s = tree-scan cited rows t in
    let n : length rows ≡ size (tree t) = ap length t.listing ∙ length-post (tree t) in
    let m : length rows ≤ length held = grind (arith, common_steps, e, length-spans_of (tree t)) in
    rw (is_room limit (length rows) (length held) (omega arith) short m) (rescan_agrees cited rows [] rest held (rw s e) ∙ ap (λ x. x.answer) s)

-- where the spans written and the spans held part
record ApartAt (written held : List ℕ) (i : ℕ) : Type 0 where
  within : i < length written
  before : take i held ≡ take i written
  here : get_or held i 0 ≡ get_or written i 0 → ⊥

abbrev RefusalOf : Screened → List ℕ → ScreenFault → Type 0
RefusalOf s held fault = (s.answer ≡ Err fault) ⊎ ((i : ℕ) × (fault ≡ Citation i) × ApartAt s.written held i)

apart_here : {R : Type 0} (cited : R → Option (List ℕ)) (rs : List R) (done held : List ℕ) (s : ℕ) → take (length done) held ≡ done → (s ≡ get_or held (length done) 0 → ⊥) → ApartAt (scan cited rs (done ++ s ∷ [])).written held (length done)
apart_here cited rs done held s front other =
    let m = scan_front cited rs (done ++ s ∷ []) in
    record {
      within = grind (arith, common_steps, m.is);
      before = grind (arith, common_steps, m.is);
      here = λ e. other (grind (arith, common_steps, m.is));
    }

rescan_refused : {R : Type 0} (cited : R → Option (List ℕ)) (rs : List R) (done held : List ℕ) → take (length done) held ≡ done → length done + length rs ≤ length held → (fault : ScreenFault) → rescan cited rs done held ≡ Err fault → RefusalOf (scan cited rs done) held fault
rescan_refused cited [] done held front room fault e = inl e
rescan_refused cited (r ∷ rs) done held front room fault e =
    let h = get_or held (length done) 0 in
    elim (cases_result (next_span (cited r) done)) [
      | inr (f, o) ↦ inl (rw o (rw o at e))
      | inl (s, o) ↦
          elim (cases_Bool (eqb s h)) [
            | inl t ↦
                let x : rescan cited rs (done ++ h ∷ []) held ≡ Err fault = rw (o, t) at e in
                let on : take (length (done ++ h ∷ [])) held ≡ done ++ h ∷ [] = rw (length_push done h, take_more held (length done) 0 (omega arith), front) in
                rw (o, eqb-true s h t) (rescan_refused cited rs (done ++ h ∷ []) held on (omega (arith, length_push done h)) fault x)
            | inr t ↦
                let x : Err (Citation (length done)) ≡ Err fault = rw (o, t) at e in
                inr (length done, cc, rw o (apart_here cited rs done held s front (eqb-false s h t)))
          ]
    ]

confirmed_refused : {R : Type 0} (cited : R → Option (List ℕ)) (limit : ℕ) (rows : List R) (held : List ℕ) (fault : ScreenFault) → confirmed cited limit rows held ≡ Err fault → Unconfirmed cited limit rows held fault
confirmed_refused cited limit rows held fault e =
    elim (cases_result (room_for limit (length rows) (length held))) [
      | inr (f, room) ↦ inl (rw room (rw room at e))
      | inl (_, room) ↦
          let fits = room_is limit (length rows) (length held) room in
          let w = (scan cited rows []).written in
          let rest = drop (length w) held in
          let l = scan_front cited rows [] in
          elim (rescan_refused cited rows [] held refl (omega arith) fault (rw room at e)) [
            | inl y ↦ inl (rw room y)
            | inr (i, q, a) ↦
                let differs : DiffersAt cited limit rows held i = record {
                  within = omega (arith, a.within, l.within, ap length l.is);
                  before = rw (room, take-append-le i w rest (omega (arith, a.within))) a.before;
                  here = rw (room, get_or_append_left w rest 0 i a.within) a.here;
                } in
                inr (i, q, differs)
          ]
    ]

pub spans_law : {R : Type 0} (cited : R → Option (List ℕ)) (limit : ℕ) (rows : List R) (held : List ℕ) (answer : Result (Unit {0}) ScreenFault) → answer ≡ confirmed cited limit rows held → IfOk answer (λ _. Accepted cited limit rows (take (length rows) held)) → SpansLaw cited limit rows held answer
spans_law cited limit rows held answer e a =
    record {
      screened_first = λ memory h. e ∙ screened_confirmed cited limit rows memory held h;
      only = λ ok. table_law cited limit rows (take (length rows) held) (IfOk-at_ok _ ok a);
      every = λ t short rest h. e ∙ tree_confirmed cited limit rows held t short rest h;
      refused = λ fault k. confirmed_refused cited limit rows held fault (sym e ∙ k);
    }

-- where the loop came to its end
pub record Confirmed {R : Type 0} (cited : R → Option (List ℕ)) (limit : ℕ) (rows : List R) (spans : List ℕ) (r : Result (Unit {0}) ScreenFault) : Type 0 where
  pub answer : r ≡ confirmed cited limit rows spans
  pub accepted : IfOk r (λ _. Accepted cited limit rows (take (length rows) spans))

pub confirmed_end : {R : Type 0} (cited : R → Option (List ℕ)) (limit : ℕ) (rows : List R) (i : ℕ) (spans : List ℕ) → Rescanned cited rows i spans → i ≡ length rows → Fits limit (length rows) (length spans) → Ok tt ≡ room_for limit (length rows) (length spans) → (r : Result (Unit {0}) ScreenFault) → r ≡ whole (take (length rows) spans) → Confirmed cited limit rows spans r
confirmed_end cited limit rows i spans inv n fits room r e =
    let s : scan cited rows [] ≡ record { answer = whole (take i spans); written = take i spans } = scanned_all cited rows spans i spans inv.scanned (omega arith) in
    let t : rescan cited rows [] spans ≡ whole (take i spans) = sym inv.left ∙ at_drop_all (λ rs. rescan cited rs (take i spans) spans) rows i (omega arith) in
    record { answer = rw (← room, t, n) e; accepted = accepted_made cited limit rows spans fits (rw n at s) r e }
