-- Screening. The span of a row is 1 plus the spans of the rows that it cites. In row i the last citation is i - 1, and
-- each earlier one is p - span p, where p is the citation after it. The span of the last row is the table's length.
use Rattle.std.specs.Prelude.{ℕ, ◌+◌, ◌-◌, ◌<◌, ◌≤◌, cond, ◌||◌, List, [], ◌∷◌, ◌++◌, length, drop, Some, None, Ok, Err, Option, Result, ◌==◌, nat_lt, slice_index, slice_set}
use Rattle.screening.specs.declared.fault.ScreenFault.{ScreenFault}
use Rattle.screening.specs.declared.fault.ScreenFault.TheVariants.{Size, Memory, Malformed, Citation, SeveralTrees}

-- No span passes its row: the tree of row k begins at row 0 or later.
abbrev pub Bounded : List ℕ → Type 0
Bounded done = (k : ℕ) → k < length done → slice_index done k ≤ k + 1

-- one citation p, where the trees cited after it begin at row `next`: p is the row just before, and its tree begins here
abbrev pub before : List ℕ → ℕ → Option ℕ → Option ℕ
before done p None = None
before done p (Some next) = cond (p + 1 == next) (Some (next - slice_index done p)) None

-- the row at which the cited trees begin: the last ends just before row n, each other just before the one after it
abbrev pub laid : List ℕ → ℕ → List ℕ → Option ℕ
laid done n [] = Some n
laid done n (p ∷ ps) = before done p (laid done n ps)

-- the spans of the cited rows together
abbrev pub total : List ℕ → List ℕ → ℕ
total done [] = 0
total done (p ∷ ps) = slice_index done p + total done ps

-- a span, where the citations are laid as they must be
abbrev pub if_some : Option ℕ → ℕ → Option ℕ
if_some None s = None
if_some (Some _) s = Some s

-- the span of the row after those whose spans are `done`, where its citations are laid as they must be
abbrev pub span_of : List ℕ → List ℕ → Option ℕ
span_of done ps = if_some (laid done (length done) ps) (1 + total done ps)

-- a span, or the fault of a row that cites wrongly
abbrev pub or_citation : ℕ → Option ℕ → Result ℕ ScreenFault
or_citation row None = Err (Citation row)
or_citation row (Some s) = Ok s

-- the same, with the fault of a row that has none
abbrev pub next_span : Option (List ℕ) → List ℕ → Result ℕ ScreenFault
next_span None done = Err (Malformed (length done))
next_span (Some ps) done = or_citation (length done) (span_of done ps)

-- whether a row has a span
abbrev pub told : Result ℕ ScreenFault → Result (Unit {0}) ScreenFault
told (Err fault) = Err fault
told (Ok s) = Ok tt

-- the memory after row i: with its span, or as it was
abbrev pub with_row : List ℕ → ℕ → Result ℕ ScreenFault → List ℕ
with_row spans i (Err fault) = spans
with_row spans i (Ok s) = slice_set spans i s

-- what screening answers, and what it has written
pub record Screened : Type 0 where
  pub answer : Result (Unit {0}) ScreenFault
  pub written : List ℕ

-- goes on with the next span; a fault leaves what was written
abbrev pub with_span : List ℕ → Result ℕ ScreenFault → (ℕ → Screened) → Screened
with_span done (Err fault) next = record { answer = Err fault; written = done }
with_span done (Ok s) next = next s

-- whether the last span covers every row
abbrev pub whole : List ℕ → Result (Unit {0}) ScreenFault
whole done = cond (slice_index done (length done - 1) == length done) (Ok tt) (Err (SeveralTrees (length done - 1)))

-- the rows that are left, after those whose spans are `done`
abbrev pub scan : {R : Type 0} → (R → Option (List ℕ)) → List R → List ℕ → Screened
scan cited [] done = record { answer = whole done; written = done }
scan cited (r ∷ rs) done = with_span done (next_span (cited r) done) (λ s. scan cited rs (done ++ s ∷ []))

-- whether a table of so many rows may be screened with so much span memory
abbrev pub room_for : ℕ → ℕ → ℕ → Result (Unit {0}) ScreenFault
room_for limit rows memory =
    cond (rows == 0 || nat_lt limit rows) (Err Size) (cond (nat_lt memory rows) (Err Memory) (Ok tt))

-- such a table: it has rows, not too many, and there is memory for their spans
pub record Fits (limit rows memory : ℕ) : Type 0 where
  pub some : 0 < rows
  pub short : rows ≤ limit
  pub room : rows ≤ memory

-- what is written stands at the front of the memory
abbrev pub over : Screened → List ℕ → Screened
over s memory = record { answer = s.answer; written = s.written ++ drop (length s.written) memory }

-- where there is room, what the scan gives; else the fault, and the memory as it was
abbrev pub where_room : Result (Unit {0}) ScreenFault → Screened → List ℕ → Screened
where_room (Err fault) s memory = record { answer = Err fault; written = memory }
where_room (Ok _) s memory = over s memory

-- the answer of screening, and the whole span memory after it
abbrev pub screened : {R : Type 0} → (R → Option (List ℕ)) → ℕ → List R → List ℕ → Screened
screened cited limit rows memory = where_room (room_for limit (length rows) (length memory)) (scan cited rows []) memory
