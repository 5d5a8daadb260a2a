-- What makes screened syntax rows a program: every child is of the sort that its parent's kind asks for, every datum is
-- one that its kind may hold, and the last row is a command.
use Rattle.std.specs.Prelude.{◌≡◌, ℕ, ◌+◌, ◌-◌, ◌<◌, Bool, true, false, cond, ◌&&◌, List, [], ◌∷◌, length, Some, None, Ok, Err, Option, Result}
use Rattle.std.specs.List.{slice_get}
use Rattle.std.specs.Result.{result_and}
use Rattle.rows.specs.declared.syntax.Sort.{Sort}
use Rattle.rows.specs.declared.syntax.Sort.TheVariants.{Expression, Test, Command}
use Rattle.rows.specs.declared.syntax.Kind.{Kind}
use Rattle.rows.specs.declared.syntax.SyntaxRow.{SyntaxRow}
use Rattle.screening.specs.declared.fault.ScreenFault.{ScreenFault}
use Rattle.tables.specs.declared.fault.ProgramFault.{ProgramFault}
use Rattle.tables.specs.declared.fault.ProgramFault.TheVariants.{Screening, ChildSort, Datum, NotCommand}
use Rattle.rows.specs.Syntax.{kind_of, sort_of, children_of, admitted}

-- the sort of a kind, if it is known
abbrev pub kind_sort : Option Kind → Option Sort
kind_sort None = None
kind_sort (Some kind) = Some (sort_of kind)

-- the sort of a row, if there is one and its kind is known
abbrev pub row_sort : Option SyntaxRow → Option Sort
row_sort None = None
row_sort (Some row) = kind_sort (kind_of row.kind)

-- the sort of the phrase at a row
abbrev pub sort_at : List SyntaxRow → ℕ → Option Sort
sort_at rows p = row_sort (slice_get rows p)

-- whether two sorts are the same
abbrev pub same_sort : Sort → Sort → Bool
same_sort Expression Expression = true
same_sort Expression Test = false
same_sort Expression Command = false
same_sort Test Expression = false
same_sort Test Test = true
same_sort Test Command = false
same_sort Command Expression = false
same_sort Command Test = false
same_sort Command Command = true

-- whether a phrase is of a sort
abbrev pub is_of : Sort → Option Sort → Bool
is_of sort None = false
is_of sort (Some other) = same_sort sort other

-- whether the children are of these sorts, one by one
abbrev pub have_sorts : List SyntaxRow → List Sort → List ℕ → Bool
have_sorts rows [] ps = true
have_sorts rows (s ∷ ss) [] = false
have_sorts rows (s ∷ ss) (p ∷ ps) = is_of s (sort_at rows p) && have_sorts rows ss ps

-- whether row i stands among the rows as its kind asks, where this is its kind: its children first, then its datum
abbrev pub formed_as : List SyntaxRow → ℕ → SyntaxRow → Option Kind → Result (Unit {0}) ProgramFault
formed_as rows i row None = Err (ChildSort i)
formed_as rows i row (Some kind) =
    cond (have_sorts rows (children_of kind) row.children)
    (cond (admitted kind row.datum) (Ok tt) (Err (Datum i)))
    (Err (ChildSort i))

-- the same of a row with its own kind
abbrev pub formed_row : List SyntaxRow → ℕ → SyntaxRow → Result (Unit {0}) ProgramFault
formed_row rows i row = formed_as rows i row (kind_of row.kind)

-- whether the last row is a command
abbrev pub ends_in_command : List SyntaxRow → Result (Unit {0}) ProgramFault
ends_in_command rows = cond (is_of Command (sort_at rows (length rows - 1))) (Ok tt) (Err (NotCommand (length rows - 1)))

-- the rows from row i on, and then the last
abbrev pub formed_from : List SyntaxRow → ℕ → List SyntaxRow → Result (Unit {0}) ProgramFault
formed_from rows i [] = ends_in_command rows
formed_from rows i (r ∷ rs) = result_and (formed_row rows i r) (formed_from rows (i + 1) rs)

-- all rows in order, and then the last: the first that is wrong, if any is
abbrev pub formed : List SyntaxRow → Result (Unit {0}) ProgramFault
formed rows = formed_from rows 0 rows

-- after screening, its answer, and where it accepted what the rows form
abbrev pub then_formed : Result (Unit {0}) ScreenFault → List SyntaxRow → Result (Unit {0}) ProgramFault
then_formed (Err fault) rows = Err (Screening fault)
then_formed (Ok _) rows = formed rows

-- the children are of these sorts, one by one
abbrev pub Sorts : List SyntaxRow → List Sort → List ℕ → Type 0
Sorts rows [] ps = Unit {0}
Sorts rows (s ∷ ss) [] = ⊥
Sorts rows (s ∷ ss) (p ∷ ps) = (sort_at rows p ≡ Some s) × Sorts rows ss ps

-- a row whose kind is known, with children of its sorts and a datum that it may hold
pub record FormedRow (rows : List SyntaxRow) (row : SyntaxRow) : Type 0 where
  pub kind : Kind
  pub known : kind_of row.kind ≡ Some kind
  pub sorts : Sorts rows (children_of kind) row.children
  pub datum : admitted kind row.datum ≡ true

-- the rows are those of a program, if they list a tree
pub record WellFormed (rows : List SyntaxRow) : Type 0 where
  pub each : (i : ℕ) (row : SyntaxRow) → slice_get rows i ≡ Some row → FormedRow rows row
  pub command : sort_at rows (length rows - 1) ≡ Some Command

-- row i, of a known kind, after rows that are all formed
pub record Reached (rows : List SyntaxRow) (i : ℕ) : Type 0 where
  pub before : (k : ℕ) (row : SyntaxRow) → k < i → slice_get rows k ≡ Some row → FormedRow rows row
  pub row : SyntaxRow
  pub here : slice_get rows i ≡ Some row
  pub kind : Kind
  pub known : kind_of row.kind ≡ Some kind

-- Row i has a child of another sort.
pub record WrongSort (rows : List SyntaxRow) (i : ℕ) : Type 0 where
  pub at : Reached rows i
  pub wrong : Sorts rows (children_of at.kind) at.row.children → ⊥

-- Row i has children of its sorts, and a datum that its kind may not hold.
pub record WrongDatum (rows : List SyntaxRow) (i : ℕ) : Type 0 where
  pub at : Reached rows i
  pub sorts : Sorts rows (children_of at.kind) at.row.children
  pub wrong : admitted at.kind at.row.datum ≡ false

-- All rows are formed, and the last one, i, is not a command.
pub record NoCommand (rows : List SyntaxRow) (i : ℕ) : Type 0 where
  pub each : (k : ℕ) (row : SyntaxRow) → slice_get rows k ≡ Some row → FormedRow rows row
  pub last : i + 1 ≡ length rows
  pub wrong : sort_at rows i ≡ Some Command → ⊥
