use Rattle.screening.proofs.Scans.{Scanned}
use Rattle.screening.proofs.screen.Given as goal

abbrev pub invariant-loop-i : goal.invariant-loop-i
invariant-loop-i g l = Scanned g.R.Citing.cited l.rows l.initial.spans l.i l.spans
