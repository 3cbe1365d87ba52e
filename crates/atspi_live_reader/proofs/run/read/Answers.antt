use Rattle.std.proofs.Common.{ℕ, ◌++◌, refl, ap, subst, ◌∙◌, inl, inr, arith}
use Rattle.atspi_live_conversation.proofs.Running.{connect_failed, connected, fresh, is_open, on_link}
use Rattle.atspi_reader.specs.ReaderOf.{reader_of}
use Rattle.atspi_live_reader.specs.Following.{OverBlames, RunsOver}
use Rattle.atspi_live_reader.specs.Shows.{last_words}
use Rattle.atspi_live_reader.specs.declared.over.Over.TheVariants.{Ended, NotWritten}
use Rattle.atspi_live_reader.proofs.Running.{begins, ended, last_causes, may_tell, mute_causes, none_ends, none_speak, not_written, one_speaks, quiet, silent, subst_causes}
use Rattle.atspi_live_reader.proofs.run.read.Goals as goal

pub returns-in_default-clause-speech : goal.returns-in_default-clause-speech
returns-in_default-clause-speech g c = none_speak (g.H.Host.links c.args.host.now) (g.H.Host.calls c.args.host.now) c.requires.links

pub returns-in_default-clause-ends : goal.returns-in_default-clause-ends
returns-in_default-clause-ends g c = none_ends c.args.path.now (g.H.Host.links c.args.host.now) 5 c.args.rounds (g.H.Host.calls c.args.host.now) (g.K.Sink.written c.args.sink.now) c.requires.links (inr refl)

pub returns-in_default-clause-causes : goal.returns-in_default-clause-causes
returns-in_default-clause-causes g c = record { by_host = λ e. absurd (omega (arith, e)); no_host = inr refl; no_link = inr (inr refl); by_sink = λ e. absurd (omega (arith, e)); no_sink = inr refl }

pub returns-in_default-connect-clause-speech : goal.returns-in_default-connect-clause-speech
returns-in_default-connect-clause-speech g c =
    let f = connect_failed c.connect.result (g.H.Host.links c.args.host.now) (g.H.Host.links c.connect.new.self) (g.H.Host.faults c.args.host.now) (g.H.Host.faults c.connect.new.self)
    c.in_default-connect.not-Done c.connect.ensures.ready c.connect.ensures.links c.connect.ensures.cause
    in
    none_speak (g.H.Host.links c.connect.new.self) (g.H.Host.calls c.connect.new.self) (f.1 ∙ c.requires.links)

pub returns-in_default-connect-clause-ends : goal.returns-in_default-connect-clause-ends
returns-in_default-connect-clause-ends g c =
    let f = connect_failed c.connect.result (g.H.Host.links c.args.host.now) (g.H.Host.links c.connect.new.self) (g.H.Host.faults c.args.host.now) (g.H.Host.faults c.connect.new.self)
    c.in_default-connect.not-Done c.connect.ensures.ready c.connect.ensures.links c.connect.ensures.cause
    in
    none_ends c.args.path.now (g.H.Host.links c.connect.new.self) 7 c.args.rounds (g.H.Host.calls c.connect.new.self) (g.K.Sink.written c.args.sink.now) (f.1 ∙ c.requires.links) (inl refl)

pub returns-in_default-connect-clause-causes : goal.returns-in_default-connect-clause-causes
returns-in_default-connect-clause-causes g c =
    let f = connect_failed c.connect.result (g.H.Host.links c.args.host.now) (g.H.Host.links c.connect.new.self) (g.H.Host.faults c.args.host.now) (g.H.Host.faults c.connect.new.self)
    c.in_default-connect.not-Done c.connect.ensures.ready c.connect.ensures.links c.connect.ensures.cause
    in
    record { by_host = λ e. inl f.0; no_host = inl refl; no_link = inl refl; by_sink = λ e. absurd (omega (arith, e)); no_sink = inr refl }

pub follow-requires : goal.follow-requires
follow-requires g c = record {
  «open» = is_open (g.H.Host.links c.connect.new.self) c.in-Done.link (connected (g.H.Host.links c.args.host.now) (g.H.Host.links c.connect.new.self) c.in-Done.link c.requires.links c.in-Done.ensures.links);
  fresh = fresh (g.H.Host.calls c.args.host.now) (g.H.Host.calls c.connect.new.self) c.in-Done.link c.args.path.now c.requires.calls c.in-Done.ensures.calls;
  begins = begins c.in-Ok.end c.in-Ok.ensures.is c.in-Ok.ensures.starts c.in-Ok.ensures.lines;
  quiet = quiet c.in-Ok.end c.in-Ok.ensures.starved c.in-Ok.ensures.lines;
}

pub returns-in-Ended-clause-speech : goal.returns-in-Ended-clause-speech
returns-in-Ended-clause-speech g c =
    one_speaks (g.H.Host.links c.follow.new.host) c.in-Done.link c.args.rounds c.follow.result (g.H.Host.calls c.follow.new.host) (g.K.Sink.written c.args.sink.now) (g.K.Sink.written c.follow.new.sink)
    (c.follow.ensures.links ∙ connected (g.H.Host.links c.args.host.now) (g.H.Host.links c.connect.new.self) c.in-Done.link c.requires.links c.in-Done.ensures.links)
    c.follow.ensures.over

pub tell-requires : goal.tell-requires
tell-requires g c e =
    may_tell c.in-Done.link c.in-Ended.ending (g.H.Host.calls c.follow.new.host) (g.K.Sink.written c.args.sink.now) (g.K.Sink.written c.follow.new.sink) c.follow.new.end c.in-Ended.ensures.left e

pub returns-in-Ended-clause-ends : goal.returns-in-Ended-clause-ends
returns-in-Ended-clause-ends g c =
    ended c.args.path.now (g.H.Host.links c.follow.new.host) c.in-Done.link c.tell.result c.args.rounds c.in-Ended.ending (g.H.Host.calls c.follow.new.host) c.follow.new.end
    (g.K.Sink.written c.args.sink.now) (g.K.Sink.written c.follow.new.sink) (g.K.Sink.written c.tell.new.sink)
    (c.follow.ensures.links ∙ connected (g.H.Host.links c.args.host.now) (g.H.Host.links c.connect.new.self) c.in-Done.link c.requires.links c.in-Done.ensures.links)
    c.in-Ended.ensures.left c.in-Ended.ensures.over
    (on_link c.args.path.now c.in-Done.link (g.H.Host.calls c.args.host.now) (g.H.Host.calls c.connect.new.self) (g.H.Host.calls c.follow.new.host) (RunsOver c.in-Done.link (Ended c.in-Ended.ending) c.args.rounds)
    c.requires.calls c.in-Done.ensures.calls c.in-Ended.ensures.rounds)
    c.tell.ensures.reports

pub returns-in-Ended-clause-causes : goal.returns-in-Ended-clause-causes
returns-in-Ended-clause-causes g c =
    subst_causes c.tell.result (g.H.Host.faults c.args.host.now) (g.H.Host.faults c.follow.new.host) (g.H.Host.link_faults c.args.host.now) (g.H.Host.link_faults c.follow.new.host)
    (g.K.Sink.faults c.args.sink.now) (g.K.Sink.faults c.follow.new.sink) (g.K.Sink.faults c.tell.new.sink) c.in-Ended.ensures.sink
    (last_causes (c.follow.new.end.lines ++ last_words c.in-Ended.ending (reader_of c.follow.new.end.reader)) c.in-Ended.ending c.tell.result (g.H.Host.faults c.args.host.now) (g.H.Host.faults c.follow.new.host) (g.H.Host.link_faults c.args.host.now) (g.H.Host.link_faults c.follow.new.host)
    (g.K.Sink.faults c.follow.new.sink) (g.K.Sink.faults c.tell.new.sink) (g.K.Sink.written c.follow.new.sink) (g.K.Sink.written c.tell.new.sink)
    (c.follow.ensures.other ∙ c.in-Done.ensures.cause)
    (subst (λ (n : ℕ). OverBlames (Ended c.in-Ended.ending) n (g.H.Host.link_faults c.follow.new.host)) c.connect.ensures.other c.in-Ended.ensures.cause)
    (c.tell.ensures.reports (c.follow.new.end.lines ++ last_words c.in-Ended.ending (reader_of c.follow.new.end.reader)) (inr refl)) c.tell.ensures.cause)

pub returns-clause-speech : goal.returns-clause-speech
returns-clause-speech g c =
    one_speaks (g.H.Host.links c.follow.new.host) c.in-Done.link c.args.rounds c.follow.result (g.H.Host.calls c.follow.new.host) (g.K.Sink.written c.args.sink.now) (g.K.Sink.written c.follow.new.sink)
    (c.follow.ensures.links ∙ connected (g.H.Host.links c.args.host.now) (g.H.Host.links c.connect.new.self) c.in-Done.link c.requires.links c.in-Done.ensures.links)
    c.follow.ensures.over

pub returns-clause-ends : goal.returns-clause-ends
returns-clause-ends g c =
    not_written c.args.path.now (g.H.Host.links c.follow.new.host) c.in-Done.link c.args.rounds (g.H.Host.calls c.follow.new.host) (g.K.Sink.written c.args.sink.now) (g.K.Sink.written c.follow.new.sink)
    (c.follow.ensures.links ∙ connected (g.H.Host.links c.args.host.now) (g.H.Host.links c.connect.new.self) c.in-Done.link c.requires.links c.in-Done.ensures.links)
    c.in-NotWritten.ensures.over
    (on_link c.args.path.now c.in-Done.link (g.H.Host.calls c.args.host.now) (g.H.Host.calls c.connect.new.self) (g.H.Host.calls c.follow.new.host) (RunsOver c.in-Done.link NotWritten c.args.rounds)
    c.requires.calls c.in-Done.ensures.calls c.in-NotWritten.ensures.rounds)

pub returns-clause-causes : goal.returns-clause-causes
returns-clause-causes g c =
    mute_causes (g.H.Host.faults c.args.host.now) (g.H.Host.faults c.follow.new.host) (g.H.Host.link_faults c.args.host.now) (g.H.Host.link_faults c.follow.new.host) (g.K.Sink.faults c.args.sink.now) (g.K.Sink.faults c.follow.new.sink)
    (c.follow.ensures.other ∙ c.in-Done.ensures.cause) (c.in-NotWritten.ensures.cause ∙ c.connect.ensures.other) c.in-NotWritten.ensures.sink

pub returns-in_default-clause-silent : goal.returns-in_default-clause-silent
returns-in_default-clause-silent g c e = absurd (omega (arith, e))

pub returns-in_default-connect-clause-silent : goal.returns-in_default-connect-clause-silent
returns-in_default-connect-clause-silent g c e = absurd (omega (arith, e))

pub returns-in-Ended-clause-silent : goal.returns-in-Ended-clause-silent
returns-in-Ended-clause-silent g c =
    silent c.args.path.now (g.H.Host.links c.follow.new.host) c.tell.result c.args.rounds (g.H.Host.calls c.follow.new.host) (g.K.Sink.written c.args.sink.now) (g.K.Sink.written c.tell.new.sink)
    (returns-in-Ended-clause-ends g c)

pub returns-clause-silent : goal.returns-clause-silent
returns-clause-silent g c e = absurd (omega (arith, e))
