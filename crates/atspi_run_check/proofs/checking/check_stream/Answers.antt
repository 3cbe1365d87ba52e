use Rattle.std.proofs.Common.{sym, ◌∙◌, arith}
use Rattle.atspi_run_check.proofs.CheckLemmas.{ends_whole, ends_cut, ends_limit, ends_failed, ends_fault, ends_halted}
use Rattle.atspi_run_check.proofs.checking.check_stream.Goals as goal

pub returns-in-Whole-clause-ends : goal.returns-in-Whole-clause-ends
returns-in-Whole-clause-ends g c =
    let x = rw c.in-Whole.is at c.take_in-end.ensures.taken in
    ends_whole (g.S.Source.left c.args.source.now) (g.S.Source.left c.take_in-end.new.source) c.take_in-end.new.feeder c.take_in-end.result.1 (g.K.Sink.written c.args.sink.now) (g.K.Sink.written c.take_in-end.new.sink) x (sym c.len-held.ensures ∙ c.if-held-eq0.true)

pub returns-in-Whole-2-clause-ends : goal.returns-in-Whole-2-clause-ends
returns-in-Whole-2-clause-ends g c =
    let x = rw c.in-Whole.is at c.take_in-end.ensures.taken in
    ends_cut c.fault_status.result c.saturating_sub-start.result c.len-held.result c.tell_fault.result (g.S.Source.left c.args.source.now) (g.S.Source.left c.take_in-end.new.source) c.take_in-end.new.feeder c.take_in-end.result.1
    (g.K.Sink.written c.args.sink.now) (g.K.Sink.written c.take_in-end.new.sink) (g.K.Sink.written c.tell_fault.new.sink) x (λ z. c.if-held-eq0.false (c.len-held.ensures ∙ z)) (omega (arith, c.saturating_sub-start.ensures, c.len-held.ensures)) c.len-held.ensures
    c.fault_status.ensures c.tell_fault.ensures.ok c.tell_fault.ensures.err

pub returns-in-TooLong-clause-ends : goal.returns-in-TooLong-clause-ends
returns-in-TooLong-clause-ends g c =
    let x = rw c.in-TooLong.is at c.take_in-end.ensures.taken in
    ends_limit (g.S.Source.left c.args.source.now) (g.S.Source.left c.take_in-end.new.source) c.take_in-end.new.feeder c.take_in-end.result.1 (g.K.Sink.written c.args.sink.now) (g.K.Sink.written c.take_in-end.new.sink) x

pub returns-in-Failed-clause-ends : goal.returns-in-Failed-clause-ends
returns-in-Failed-clause-ends g c =
    let x = rw c.in-Failed.is at c.take_in-end.ensures.taken in
    ends_failed (g.S.Source.left c.args.source.now) (g.S.Source.left c.take_in-end.new.source) c.take_in-end.new.feeder c.take_in-end.result.1 (g.K.Sink.written c.args.sink.now) (g.K.Sink.written c.take_in-end.new.sink) x

pub returns-in-Malformed-clause-ends : goal.returns-in-Malformed-clause-ends
returns-in-Malformed-clause-ends g c =
    let x = rw c.in-Malformed.is at c.take_in-end.ensures.taken in
    ends_fault c.fault_status-in-Malformed.result c.saturating_sub-start.result c.in-Malformed.fault.place c.in-Malformed.fault.reason c.tell_fault-in-Malformed.result (g.S.Source.left c.args.source.now) (g.S.Source.left c.take_in-end.new.source) c.take_in-end.new.feeder c.take_in-end.result.1
    (g.K.Sink.written c.args.sink.now) (g.K.Sink.written c.take_in-end.new.sink) (g.K.Sink.written c.tell_fault-in-Malformed.new.sink) x.0 x.1 (omega (arith, c.saturating_sub-start.ensures, c.len-held.ensures))
    c.fault_status-in-Malformed.ensures c.tell_fault-in-Malformed.ensures.ok c.tell_fault-in-Malformed.ensures.err

pub returns-clause-ends : goal.returns-clause-ends
returns-clause-ends g c =
    let x = rw c.in-Halted.is at c.take_in-end.ensures.taken in
    ends_halted c.in-Halted.halt c.status.result (g.S.Source.left c.args.source.now) (g.S.Source.left c.take_in-end.new.source) (g.K.Sink.written c.args.sink.now) (g.K.Sink.written c.take_in-end.new.sink) c.status.ensures x
