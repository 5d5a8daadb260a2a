use Rattle.screening.proofs.Held.{Rescanned}
use Rattle.screening.proofs.confirm.Given as goal

abbrev pub invariant-loop-i : goal.invariant-loop-i
invariant-loop-i g l = Rescanned g.R.Citing.cited l.rows l.i l.spans
