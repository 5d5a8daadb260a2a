use Rattle.std.proofs.Common.{◌≡◌, drop}
use Rattle.tables.specs.Forming.{formed_from, formed}
use Rattle.tables.proofs.forming.check_rows.Given as goal

-- what is left gives the whole
abbrev pub invariant-loop-i : goal.invariant-loop-i
invariant-loop-i l = formed_from l.listed.rows.now l.i (drop l.i l.listed.rows.now) ≡ formed l.listed.rows.now
