use Rattle.std.proofs.Common.{◌≡◌, arith}
use Rattle.walk.proofs.Walks.{arrived}
use Rattle.walk.proofs.walk.Goals as goal

pub returns-then-is_end : goal.returns-then-is_end
returns-then-is_end g c = (omega arith, arrived c.loop-steps.invariant c.if-is_end.ensures)

pub returns-then-is_end-2 : goal.returns-then-is_end-2
returns-then-is_end-2 g c =
    let e : c.loop-steps.steps-counter ≡ c.args.limit = omega arith in
    (omega arith, rw e at (arrived c.loop-steps.invariant c.if-is_end-2.ensures))
