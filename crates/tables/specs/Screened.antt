-- Screened programs and derivations: what holds of one as long as it exists, and what it is to fill a slot with one.
use Rattle.std.specs.Prelude.{◌≡◌, ℕ, ◌≤◌, true, List, [], ◌∷◌, ◌++◌, length, take, pos, is_ok, Ok, Err, Option, Result}
use Rattle.rows.specs.declared.syntax.SyntaxRow.{SyntaxRow}
use Rattle.rows.specs.declared.derivation.DerivationRow.{DerivationRow}
use Rattle.screening.specs.declared.fault.ScreenFault.{ScreenFault}
use Rattle.tables.specs.declared.fault.ProgramFault.{ProgramFault}
use Rattle.tables.specs.declared.fault.ProgramFault.TheVariants.{Screening, ChildSort, Datum, NotCommand}
use Rattle.rows.specs.Citing.{longest_program, longest_derivation, syntax_cites, derivation_cites}
use Rattle.screening.specs.Screening.{screened}
use Rattle.screening.specs.Trees.{spans_of, Lists, tree}
use Rattle.screening.specs.Spans.{confirmed, Accepted, TableLaw, Unconfirmed}
use Rattle.tables.specs.Forming.{formed, then_formed, WellFormed, WrongSort, WrongDatum, NoCommand}

-- the fields of a row that cites nothing
abbrev pub no_citations : List ℕ
no_citations = 65535 ∷ 65535 ∷ 65535 ∷ []

-- the one row of the program that is built in: skip
abbrev pub skip_row : SyntaxRow
skip_row = record { kind = 10; children = no_citations; datum = pos 0 }

-- the one row of the derivation that is built in: the rule SKIP at row 0
abbrev pub skip_rule_row : DerivationRow
skip_rule_row = record { rule = 10; syntax = 0; premises = no_citations; value = pos 0 }

-- the rows and spans of a screened table: screening accepts them, and the rows form what they must
abbrev pub Lawful : {R E : Type 0} → (R → Option (List ℕ)) → ℕ → (List R → Result (Unit {0}) E) → List R → List ℕ → Type 0
Lawful cited limit formed rows spans = Accepted cited limit rows spans × (is_ok (formed rows) ≡ true)

-- the answer of filling a slot: the spans have to be those that screening writes, and the rows have to form a program
abbrev pub program_answer : List SyntaxRow → List ℕ → Result (Unit {0}) ProgramFault
program_answer rows spans = then_formed (confirmed syntax_cites longest_program rows spans) rows

-- a derivation has nothing to form
abbrev pub derivation_answer : List DerivationRow → List ℕ → Result (Unit {0}) ScreenFault
derivation_answer rows spans = confirmed derivation_cites longest_derivation rows spans

-- a slot after it was offered a raw table: it holds that table's rows and spans, or is as it was
abbrev pub Filled : {T R E : Type 0} → Result (Unit {0}) E → T → T → List R → List ℕ → List R → List ℕ → Type 0
Filled (Ok _) before after rows spans raw_rows raw_spans = (rows ≡ raw_rows) × (spans ≡ take (length raw_rows) raw_spans)
Filled (Err _) before after rows spans raw_rows raw_spans = after ≡ before

-- what each refusal says of the rows
abbrev pub Refused : List SyntaxRow → List ℕ → ProgramFault → Type 0
Refused rows spans (Screening fault) = Unconfirmed syntax_cites longest_program rows spans fault
Refused rows spans (ChildSort i) = WrongSort rows i
Refused rows spans (Datum i) = WrongDatum rows i
Refused rows spans (NotCommand i) = NoCommand rows i

-- What filling a slot with a program means. After a screening it gives the screening's answer, and where that accepted,
-- whether the rows form a program. It accepts exactly the well-formed tables of lawful length that list one tree, with
-- the sizes of the subtrees at the front of their spans. A refusal says what is wrong.
pub record ProgramLaw (rows : List SyntaxRow) (spans : List ℕ) (answer : Result (Unit {0}) ProgramFault) : Type 0 where
  pub screened_first : (memory : List ℕ) → spans ≡ (screened syntax_cites longest_program rows memory).written → answer ≡ then_formed (screened syntax_cites longest_program rows memory).answer rows
  pub only : answer ≡ Ok tt → TableLaw syntax_cites longest_program rows (take (length rows) spans) × WellFormed rows
  pub every : (t : Lists syntax_cites rows) → length rows ≤ longest_program → (rest : List ℕ) → spans ≡ spans_of (tree t) ++ rest → WellFormed rows → answer ≡ Ok tt
  pub refused : (fault : ProgramFault) → answer ≡ Err fault → Refused rows spans fault
