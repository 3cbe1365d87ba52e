use Rattle.std.proofs.Common.{ℕ, refl, subst}
use Rattle.atspi_live_conversation.specs.Reports.{SinkBlamed}
use Rattle.atspi_live_reader.proofs.Running.{reported, told, untold}
use Rattle.atspi_live_reader.proofs.run.tell.Goals as goal

pub returns-then-not-has_words-clause-reports : goal.returns-then-not-has_words-clause-reports
returns-then-not-has_words-clause-reports g c words k =
    reported words c.args.ending c.report.result (g.K.Sink.written c.args.sink.now) (g.K.Sink.written c.report.new.sink) (c.if-not-has_words.ensures.no refl) c.report.ensures.reports

pub tell_last-requires : goal.tell_last-requires
tell_last-requires g c = c.requires (c.if-not-has_words.ensures.yes refl)

pub returns-in-Ok-clause-reports : goal.returns-in-Ok-clause-reports
returns-in-Ok-clause-reports g c words k =
    told words c.args.ending c.report-in-Ok.result (g.K.Sink.written c.args.sink.now) (g.K.Sink.written c.tell_last.new.sink) (g.K.Sink.written c.report-in-Ok.new.sink) (c.if-not-has_words.ensures.yes refl)
    (c.in-Ok.ensures.ok words k) c.report-in-Ok.ensures.reports

pub returns-in-Ok-clause-cause : goal.returns-in-Ok-clause-cause
returns-in-Ok-clause-cause g c = subst (λ (n : ℕ). SinkBlamed c.report-in-Ok.result n (g.K.Sink.faults c.report-in-Ok.new.sink)) c.in-Ok.ensures.cause c.report-in-Ok.ensures.cause

pub returns-in-Err-clause-reports : goal.returns-in-Err-clause-reports
returns-in-Err-clause-reports g c words k =
    untold words c.args.ending c.in-Err.status (g.K.Sink.written c.args.sink.now) (g.K.Sink.written c.tell_last.new.sink) (c.if-not-has_words.ensures.yes refl) (c.in-Err.ensures.err words k)
