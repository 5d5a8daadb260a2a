-- Well-formed rows form a program, what a refusal says of rows that form none, and so what a program's answer means.
use Rattle.std.proofs.Common.{◌≡◌, ℕ, suc, ◌+◌, ◌-◌, ◌<◌, Bool, true, false, cond, ◌⊎◌, List, [], ◌∷◌, length, drop, Some, Ok, Err, Option, Result, refl, ap, inl, inr, arith}
use Rattle.std.proofs.lemmas.Grind.{common_steps}
use Rattle.std.proofs.lemmas.List.{length-drop, drop-drop}
use Rattle.std.proofs.lemmas.Option.{slice_get_within, gets}
use Rattle.std.specs.List.{slice_get}
use Rattle.std.specs.Result.{result_and}
use Rattle.rows.specs.declared.syntax.Sort.{Sort}
use Rattle.rows.specs.declared.syntax.Sort.TheVariants.{Command}
use Rattle.rows.specs.declared.syntax.Kind.{Kind}
use Rattle.rows.specs.declared.syntax.SyntaxRow.{SyntaxRow}
use Rattle.tables.specs.declared.fault.ProgramFault.{ProgramFault}
use Rattle.tables.specs.declared.fault.ProgramFault.TheVariants.{ChildSort, Datum}
use Rattle.rows.specs.Syntax.{kind_of, children_of, admitted}
use Rattle.tables.specs.Forming.{sort_at, have_sorts, formed_row, formed_from, formed, Sorts, FormedRow, Reached}
use Rattle.rows.specs.Citing.{longest_program, children_cited, syntax_cites}
use Rattle.screening.specs.Spans.{SpansLaw}
use Rattle.tables.specs.Screened.{Refused, ProgramLaw}
use Rattle.tables.specs.SyntaxLaws.{sorted_sorts, formed_well}
use Rattle.screening.proofs.Forests.{length-post}
use Rattle.screening.specs.Trees.{tree, Citations}

-- well-formed rows form a program
sorts_sorted : (rows : List SyntaxRow) (ss : List Sort) (ps : List ℕ) → Sorts rows ss ps → have_sorts rows ss ps ≡ true
sorts_sorted rows [] ps h = refl
sorts_sorted rows (s ∷ ss) ps h = grind (arith, sorts_sorted rows ss)

is_formed_row : (rows : List SyntaxRow) (i : ℕ) (row : SyntaxRow) → FormedRow rows row → formed_row rows i row ≡ Ok tt
is_formed_row rows i row h = grind (arith, sorts_sorted rows)

is_formed_from : (rows : List SyntaxRow) (i : ℕ) (rs : List SyntaxRow) → ((k : ℕ) (row : SyntaxRow) → slice_get rs k ≡ Some row → FormedRow rows row) → sort_at rows (length rows - 1) ≡ Some Command → formed_from rows i rs ≡ Ok tt
is_formed_from rows i [] h e = grind arith
is_formed_from rows i (r ∷ rs) h e =
    rw (is_formed_row rows i r (h 0 r refl)) (is_formed_from rows (i + 1) rs (λ k row n. h (suc k) row n) e)

-- why a row with these children is refused, or that those after it are
one_fault : (rows : List SyntaxRow) (ss : List Sort) (ps : List ℕ) (d : Bool) (i : ℕ) (after : Result (Unit {0}) ProgramFault) (fault : ProgramFault) → result_and {T = Unit {0}} (cond (have_sorts rows ss ps) (cond d (Ok tt) (Err (Datum i))) (Err (ChildSort i))) after ≡ Err fault → ((Sorts rows ss ps → ⊥) × (fault ≡ ChildSort i)) ⊎ ((Sorts rows ss ps × (d ≡ false) × (fault ≡ Datum i)) ⊎ (Sorts rows ss ps × (d ≡ true) × (after ≡ Err fault)))
one_fault rows ss ps d i after fault e = grind (arith, sorted_sorts rows, sorts_sorted rows)

-- every row before row i is formed
abbrev Before : List SyntaxRow → ℕ → Type 0
Before rows i = (k : ℕ) (row : SyntaxRow) → k < i → slice_get rows k ≡ Some row → FormedRow rows row

-- one more row that is formed
before_more : (rows : List SyntaxRow) (i : ℕ) (row : SyntaxRow) → slice_get rows i ≡ Some row → FormedRow rows row → Before rows i → Before rows (i + 1)
before_more rows i row here h before k x l n = grind arith

-- the first of the rows that are left, and those after it
next_row : (rows : List SyntaxRow) (i : ℕ) (row : SyntaxRow) (rs : List SyntaxRow) → drop i rows ≡ row ∷ rs → (slice_get rows i ≡ Some row) × (drop (i + 1) rows ≡ rs)
next_row rows i row rs e = grind (arith, common_steps, gets, drop-drop {A = SyntaxRow} 1)

-- every kind is known among rows that list a tree
kind_cites : (o : Option Kind) (fields : List ℕ) (ps : List ℕ) → children_cited o fields ≡ Some ps → (kind : Kind) × (o ≡ Some kind)
kind_cites o fields ps e = grind arith

-- what a refusal of the rows that are left says
forming_refused : (rows : List SyntaxRow) (spans : List ℕ) → 0 < length rows → Citations syntax_cites rows → (i : ℕ) (rs : List SyntaxRow) → drop i rows ≡ rs → Before rows i → (fault : ProgramFault) → formed_from rows i rs ≡ Err fault → Refused rows spans fault
forming_refused rows spans z _ i [] d before fault e =
    grind (arith, slice_get_within rows, ap length d, length-drop i rows)
forming_refused rows spans z citing i (r ∷ rs) d before fault e =
    let (here, on) = next_row rows i r rs d in
    let (ps, c, _) = citing.known i r here in
    let (kind, k) = kind_cites (kind_of r.kind) r.children ps c in
    let at : Reached rows i = record { before = before; row = r; here = here; kind = kind; known = k } in
    elim (one_fault rows (children_of kind) r.children (admitted kind r.datum) i _ fault (rw k at e)) [
      | inl (s, q) ↦ rw q (record { at = at; wrong = s })
      | inr (inl (s, w, q)) ↦ rw q (record { at = at; sorts = s; wrong = w })
      | inr (inr (s, w, x)) ↦
          let h : FormedRow rows r = record { kind = kind; known = k; sorts = s; datum = w } in
          forming_refused rows spans z citing (i + 1) rs on (before_more rows i r here h before) fault x
    ]

-- what a program's answer means, where screening accepts its table
pub forming_law : (rows : List SyntaxRow) (spans : List ℕ) → SpansLaw syntax_cites longest_program rows spans (Ok tt) → ProgramLaw rows spans (formed rows)
forming_law rows spans law =
    let table = law.only refl in
    let some : 0 < length rows = omega (arith, ap length table.lists.listing, length-post (tree table.lists)) in
    record {
      screened_first = λ memory h. grind (arith, law.screened_first);
      only = λ ok. (table, formed_well rows ok);
      every = λ t short rest h w. is_formed_from rows 0 rows w.each w.command;
      refused = λ fault e. forming_refused rows spans some table.citing 0 rows refl (λ k row l n. absurd (omega arith)) fault e;
    }
