-- What each kind of row cites, and how long a table of them may be. A row has no citations (None) where its code is
-- unknown or an unused field is in use; a row with nothing to cite has an empty list of them.
use Rattle.std.specs.Prelude.{ℕ, List, Some, None, Option}
use Rattle.rows.specs.declared.syntax.Kind.{Kind}
use Rattle.rows.specs.declared.derivation.Rule.{Rule}
use Rattle.rows.specs.declared.syntax.SyntaxRow.{SyntaxRow}
use Rattle.rows.specs.declared.derivation.DerivationRow.{DerivationRow}
use Rattle.rows.specs.Fields.{used}
use Rattle.rows.specs.Syntax.{kind_of, children_of}
use Rattle.rows.specs.Derivation.{rule_of, premises_of}

-- the most rows that a program and a derivation have
abbrev pub longest_program : ℕ
longest_program = 1024

abbrev pub longest_derivation : ℕ
longest_derivation = 2048

-- the citations of a row of a kind, if the kind is known
abbrev pub children_cited : Option Kind → List ℕ → Option (List ℕ)
children_cited None fields = None
children_cited (Some kind) fields = used (children_of kind) fields

-- the citations of a row of a rule, if the rule is known
abbrev pub premises_cited : Option Rule → List ℕ → Option (List ℕ)
premises_cited None fields = None
premises_cited (Some rule) fields = used (premises_of rule) fields

-- the rows that a syntax row cites: its children
abbrev pub syntax_cites : SyntaxRow → Option (List ℕ)
syntax_cites row = children_cited (kind_of row.kind) row.children

-- the rows that a derivation row cites: its premises
abbrev pub derivation_cites : DerivationRow → Option (List ℕ)
derivation_cites row = premises_cited (rule_of row.rule) row.premises
