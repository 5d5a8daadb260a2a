use Rattle.std.proofs.Common.{arith, rules}
use Rattle.std.proofs.lemmas.Result.{err_from_is_err_and}
use Rattle.screening.proofs.Held.{refused_row, rescanned_more, spans_law, confirmed_end}
use Rattle.screening.proofs.confirm.Goals as goal

pub returns-in_err-confirm_next : goal.returns-in_err-confirm_next
returns-in_err-confirm_next g c =
    let fits = c.in_ok-room_for.ensures.fits in
    let p = err_from_is_err_and c.from_residual-in_err-confirm_next.result c.from_residual-in_err-confirm_next.ensures.1 in
    let a = refused_row _ _ _ _ _ c.loop-i.invariant c.in_ok-room_for.ensures.answer c.index-rows-i.result c.loop-i-test.true (omega arith) c.index-rows-i.is c.in_err-confirm_next.field-0.0 c.in_err-confirm_next.ensures in
    rw (p.1, p.2) (record { answer = a; fits = tt; law = spans_law _ _ _ _ _ a tt; accepted = tt })

pub loop-i-preserved : goal.loop-i-preserved
loop-i-preserved g c =
    let fits = c.in_ok-room_for.ensures.fits in
    rescanned_more _ _ _ _ c.loop-i.invariant c.index-rows-i.result c.loop-i-test.true (omega arith) c.index-rows-i.is c.in_ok-confirm_next.ensures

pub returns : goal.returns
returns g c =
    let fits = c.in_ok-room_for.ensures.fits in
    let h = confirmed_end _ _ _ _ _ c.loop-i.invariant (omega arith) fits c.in_ok-room_for.ensures.answer c.whole.result c.whole.ensures in
    record { answer = h.answer; fits = search rules; law = spans_law _ _ _ _ _ h.answer h.accepted; accepted = h.accepted }
