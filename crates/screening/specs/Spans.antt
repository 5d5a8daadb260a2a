-- Tables whose spans are held already, and tables that are accepted.
use Rattle.std.specs.Prelude.{◌≡◌, ℕ, ◌<◌, ◌≤◌, true, cond, ◌⊎◌, List, [], ◌∷◌, ◌++◌, length, take, is_ok, Ok, Err, Option, Result, ◌==◌, slice_index}
use Rattle.std.specs.Result.{result_and}
use Rattle.screening.specs.declared.fault.ScreenFault.{ScreenFault}
use Rattle.screening.specs.declared.fault.ScreenFault.TheVariants.{Citation}
use Rattle.screening.specs.Screening.{next_span, whole, room_for, screened}
use Rattle.screening.specs.Trees.{spans_of, Lists, tree, Citations}

-- whether the span held for a row is the one that it has; any other is refused as a citation of that row
abbrev pub held_span : ℕ → ℕ → Result ℕ ScreenFault → Result (Unit {0}) ScreenFault
held_span row held (Err fault) = Err fault
held_span row held (Ok s) = cond (s == held) (Ok tt) (Err (Citation row))

-- the rows that are left, after those whose spans are `done`, where `held` has the spans of all
abbrev pub rescan : {R : Type 0} → (R → Option (List ℕ)) → List R → List ℕ → List ℕ → Result (Unit {0}) ScreenFault
rescan cited [] done held = whole done
rescan cited (r ∷ rs) done held =
    result_and (held_span (length done) (slice_index held (length done)) (next_span (cited r) done)) (rescan cited rs (done ++ slice_index held (length done) ∷ []) held)

-- whether a table with these spans is one that screening accepts with these spans
abbrev pub confirmed : {R : Type 0} → (R → Option (List ℕ)) → ℕ → List R → List ℕ → Result (Unit {0}) ScreenFault
confirmed cited limit rows held = result_and (room_for limit (length rows) (length held)) (rescan cited rows [] held)

-- screening accepts the table, and these are the spans that it writes
abbrev pub Accepted : {R : Type 0} → (R → Option (List ℕ)) → ℕ → List R → List ℕ → Type 0
Accepted cited limit rows spans =
    (is_ok (screened cited limit rows spans).answer ≡ true) × ((screened cited limit rows spans).written ≡ spans) × (length spans ≡ length rows)

-- What is known of a screened table: it is not too long, it lists one tree, its spans are the sizes of the subtrees, and
-- every citation is of an earlier row that no other row cites.
pub record TableLaw {R : Type 0} (cited : R → Option (List ℕ)) (limit : ℕ) (rows : List R) (spans : List ℕ) : Type 0 where
  pub short : length rows ≤ limit
  pub lists : Lists cited rows
  pub sizes : spans ≡ spans_of (tree lists)
  pub one : (t : Lists cited rows) → tree t ≡ tree lists
  pub citing : Citations cited rows

-- Row i is the first whose span is held as another than screening writes.
pub record DiffersAt {R : Type 0} (cited : R → Option (List ℕ)) (limit : ℕ) (rows : List R) (held : List ℕ) (i : ℕ) : Type 0 where
  pub within : i < length rows
  pub before : take i held ≡ take i (screened cited limit rows held).written
  pub here : slice_index held i ≡ slice_index (screened cited limit rows held).written i → ⊥

-- what a refusal says: it is that of a screening, or it is at the first row whose span is held as another
abbrev pub Unconfirmed : {R : Type 0} → (R → Option (List ℕ)) → ℕ → List R → List ℕ → ScreenFault → Type 0
Unconfirmed cited limit rows held fault =
    ((screened cited limit rows held).answer ≡ Err fault) ⊎ ((i : ℕ) × (fault ≡ Citation i) × DiffersAt cited limit rows held i)

-- What confirming spans means. After a screening it gives the screening's answer. It accepts exactly the tables of lawful
-- length that list one tree, with the sizes of the subtrees at the front of what is held. A refusal says
-- what is wrong.
pub record SpansLaw {R : Type 0} (cited : R → Option (List ℕ)) (limit : ℕ) (rows : List R) (held : List ℕ) (answer : Result (Unit {0}) ScreenFault) : Type 0 where
  pub screened_first : (memory : List ℕ) → held ≡ (screened cited limit rows memory).written → answer ≡ (screened cited limit rows memory).answer
  pub only : answer ≡ Ok tt → TableLaw cited limit rows (take (length rows) held)
  pub every : (t : Lists cited rows) → length rows ≤ limit → (rest : List ℕ) → held ≡ spans_of (tree t) ++ rest → answer ≡ Ok tt
  pub refused : (fault : ScreenFault) → answer ≡ Err fault → Unconfirmed cited limit rows held fault
