use Rattle.std.proofs.Common.{◌≡◌, ◌≤◌, length, Some}
use Rattle.screening.specs.Screening.{laid}
use Rattle.screening.proofs.Laid.{under}
use Rattle.screening.proofs.Done.start_of.Given as goal

-- what is left gives the whole
abbrev pub invariant-loop-row : goal.invariant-loop-row
invariant-loop-row l =
    (goal.iterator-loop-row).can_next l.row-iterator ×
    (goal.iterator-loop-row).is_finite l.row-iterator ×
    (under l.self.spans.now (Some l.next) l.row-iterator.iter.rest.now ≡ laid l.self.spans.now (length l.self.spans.now) l.cited) ×
    (l.next ≤ length l.self.spans.now)
