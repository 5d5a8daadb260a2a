-- Where the loop stops, the answer and the memory are those of the definition, and the law follows from that.
use Rattle.std.proofs.Common.{arith}
use Rattle.std.proofs.lemmas.Result.{err_from_is_err_and}
use Rattle.screening.proofs.Scans.{scanned_more, stopped_at_row, stopped_at_end}
use Rattle.screening.proofs.Laws.{law_of}
use Rattle.screening.proofs.screen.Goals as goal

pub returns-in_err-write_span : goal.returns-in_err-write_span
returns-in_err-write_span g c =
    let fits = c.in_ok-room_for.ensures.fits in
    let p = err_from_is_err_and c.from_residual-in_err-write_span.result c.from_residual-in_err-write_span.ensures.1 in
    let h = c.in_err-write_span.ensures in
    let s = stopped_at_row _ _ _ _ _ _ c.loop-i.invariant c.in_ok-room_for.ensures.answer c.index-rows-i.result c.loop-i-test.true (omega arith) c.index-rows-i.is c.in_err-write_span.field-0.0 h.answer _ h.memory in
    rw (p.1, p.2) (record { answer = s.answer; memory = s.written; law = law_of _ _ _ _ _ _ s.answer s.written })

pub loop-i-preserved : goal.loop-i-preserved
loop-i-preserved g c =
    let fits = c.in_ok-room_for.ensures.fits in
    let h = c.in_ok-write_span.ensures in
    scanned_more _ _ _ _ _ c.loop-i.invariant c.index-rows-i.result c.loop-i-test.true (omega arith) c.index-rows-i.is _ h.answer h.memory

pub returns : goal.returns
returns g c =
    let fits = c.in_ok-room_for.ensures.fits in
    let s = stopped_at_end _ _ _ _ _ _ c.loop-i.invariant c.in_ok-room_for.ensures.answer (omega arith) (omega arith) c.whole.result c.whole.ensures in
    record { answer = s.answer; memory = s.written; law = law_of _ _ _ _ _ _ s.answer s.written }
