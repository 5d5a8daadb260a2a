-- The laws of syntax rows as rows of tables, each with its proof: rows that form a program are well-formed, and where a
-- screening refuses a program its refusal is what the answer means. The proofs stand here and not in proofs/, because the
-- proof of a law may name nothing of its own crate's proofs/.
use Rattle.std.proofs.Common.{◌≡◌, ℕ, zero, suc, ◌+◌, ◌-◌, true, List, [], ◌∷◌, length, Some, None, Ok, Err, Option, Result, refl, arith}
use Rattle.std.proofs.lemmas.Option.{same_Some}
use Rattle.std.specs.List.{slice_get}
use Rattle.std.specs.Result.{result_and}
use Rattle.rows.specs.declared.syntax.Sort.{Sort}
use Rattle.rows.specs.declared.syntax.Sort.TheVariants.{Command}
use Rattle.rows.specs.declared.syntax.Kind.{Kind}
use Rattle.rows.specs.declared.syntax.SyntaxRow.{SyntaxRow}
use Rattle.tables.specs.declared.fault.ProgramFault.{ProgramFault}
use Rattle.tables.specs.declared.fault.ProgramFault.TheVariants.{Screening}
use Rattle.rows.specs.Syntax.{kind_of}
use Rattle.tables.specs.Forming.{sort_at, have_sorts, formed_as, formed_from, formed, Sorts, FormedRow, WellFormed}
use Rattle.rows.specs.Citing.{longest_program, syntax_cites}
use Rattle.screening.specs.declared.fault.ScreenFault.{ScreenFault}
use Rattle.screening.specs.Spans.{SpansLaw}
use Rattle.tables.specs.Screened.{ProgramLaw}

-- children that pass the test are of their sorts
pub sorted_sorts : (rows : List SyntaxRow) (ss : List Sort) (ps : List ℕ) → have_sorts rows ss ps ≡ true → Sorts rows ss ps
sorted_sorts rows [] ps e = tt
sorted_sorts rows (s ∷ ss) ps e = grind (arith, sorted_sorts rows ss)

-- the first row, where this is its kind, and the answer for those after it
first_formed : (rows : List SyntaxRow) (i : ℕ) (row : SyntaxRow) (o : Option Kind) (after : Result (Unit {0}) ProgramFault) → kind_of row.kind ≡ o → result_and (formed_as rows i row o) after ≡ Ok tt → FormedRow rows row × (after ≡ Ok tt)
first_formed rows i row None after k e = cc
first_formed rows i row (Some kind) after k e = grind (arith, sorted_sorts rows)

-- each of the rows, and the last
each_formed : (rows : List SyntaxRow) (i : ℕ) (rs : List SyntaxRow) → formed_from rows i rs ≡ Ok tt → (k : ℕ) (row : SyntaxRow) → slice_get rs k ≡ Some row → FormedRow rows row
each_formed rows i [] e k row n = cc
each_formed rows i (r ∷ rs) e zero row n = rw (← same_Some r row n) (first_formed rows i r _ _ refl e).0
each_formed rows i (r ∷ rs) e (suc k) row n = each_formed rows (i + 1) rs (first_formed rows i r _ _ refl e).1 k row n

ends_formed : (rows : List SyntaxRow) (i : ℕ) (rs : List SyntaxRow) → formed_from rows i rs ≡ Ok tt → sort_at rows (length rows - 1) ≡ Some Command
ends_formed rows i [] e = grind arith
ends_formed rows i (r ∷ rs) e = ends_formed rows (i + 1) rs (first_formed rows i r _ _ refl e).1

-- what rows form is well-formed
pub formed_well : (rows : List SyntaxRow) → formed rows ≡ Ok tt → WellFormed rows
formed_well rows e = record { each = each_formed rows 0 rows e; command = ends_formed rows 0 rows e }

-- a refusal of screening means the same of a program
pub refused_law : (rows : List SyntaxRow) (spans : List ℕ) (fault : ScreenFault) (made : ProgramFault) → made ≡ Screening fault → SpansLaw syntax_cites longest_program rows spans (Err fault) → ProgramLaw rows spans (Err made)
refused_law rows spans fault made m law =
    record {
      screened_first = λ memory h. grind (arith, law.screened_first);
      only = λ ok. cc;
      every = λ t short rest h w. cc (law.every t short rest h);
      refused = λ other e. grind (arith, law.refused fault refl);
    }
