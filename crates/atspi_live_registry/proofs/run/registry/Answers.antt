use Rattle.std.proofs.Common.{ℕ, refl, subst, ◌∙◌, inl, inr, arith}
use Rattle.atspi_live_conversation.specs.Rounds.{IsRun}
use Rattle.atspi_live_conversation.specs.Talking.{Blames}
use Rattle.atspi_live_registry.proofs.Running.{none_ends, none_speak, one_ends, one_speaks, run_of}
use Rattle.atspi_live_conversation.proofs.Running.{causes, connect_failed, connected, fresh, is_open, on_link}
use Rattle.atspi_live_registry.specs.Standing.{IsAfter, IsEmpty}
use Rattle.atspi_live_registry.proofs.run.registry.Goals as goal

pub returns-in_default-clause-speech : goal.returns-in_default-clause-speech
returns-in_default-clause-speech g c = none_speak (g.H.Host.links c.args.host.now) (g.H.Host.calls c.args.host.now) c.requires.links

pub returns-in_default-clause-ends : goal.returns-in_default-clause-ends
returns-in_default-clause-ends g c = none_ends c.args.path.now (g.H.Host.links c.args.host.now) 5 c.args.rounds (g.H.Host.calls c.args.host.now) (g.K.Sink.written c.args.sink.now) c.requires.links (inr refl)

pub returns-in_default-clause-causes : goal.returns-in_default-clause-causes
returns-in_default-clause-causes g c = record { by_host = λ e. absurd (omega (arith, e)); no_host = inr (refl, refl); by_sink = λ e. absurd (omega (arith, e)); no_sink = inr refl }

pub returns-in_default-connect-clause-speech : goal.returns-in_default-connect-clause-speech
returns-in_default-connect-clause-speech g c =
    let f = connect_failed c.connect.result (g.H.Host.links c.args.host.now) (g.H.Host.links c.connect.new.self) (g.H.Host.faults c.args.host.now) (g.H.Host.faults c.connect.new.self)
    c.in_default-connect.not-Done c.connect.ensures.ready c.connect.ensures.links c.connect.ensures.cause
    in
    none_speak (g.H.Host.links c.connect.new.self) (g.H.Host.calls c.connect.new.self) (f.1 ∙ c.requires.links)

pub returns-in_default-connect-clause-ends : goal.returns-in_default-connect-clause-ends
returns-in_default-connect-clause-ends g c =
    let f = connect_failed c.connect.result (g.H.Host.links c.args.host.now) (g.H.Host.links c.connect.new.self) (g.H.Host.faults c.args.host.now) (g.H.Host.faults c.connect.new.self)
    c.in_default-connect.not-Done c.connect.ensures.ready c.connect.ensures.links c.connect.ensures.cause
    in
    none_ends c.args.path.now (g.H.Host.links c.connect.new.self) 7 c.args.rounds (g.H.Host.calls c.connect.new.self) (g.K.Sink.written c.args.sink.now) (f.1 ∙ c.requires.links) (inl refl)

pub returns-in_default-connect-clause-causes : goal.returns-in_default-connect-clause-causes
returns-in_default-connect-clause-causes g c =
    let f = connect_failed c.connect.result (g.H.Host.links c.args.host.now) (g.H.Host.links c.connect.new.self) (g.H.Host.faults c.args.host.now) (g.H.Host.faults c.connect.new.self)
    c.in_default-connect.not-Done c.connect.ensures.ready c.connect.ensures.links c.connect.ensures.cause
    in
    record { by_host = λ e. inl f.0; no_host = inl refl; by_sink = λ e. absurd (omega (arith, e)); no_sink = inr refl }

pub converse-ending-requires : goal.converse-ending-requires
converse-ending-requires g c = record {
  «open» = is_open (g.H.Host.links c.connect.new.self) c.in-Done.link (connected (g.H.Host.links c.args.host.now) (g.H.Host.links c.connect.new.self) c.in-Done.link c.requires.links c.in-Done.ensures.links);
  fresh = fresh (g.H.Host.calls c.args.host.now) (g.H.Host.calls c.connect.new.self) c.in-Done.link c.args.path.now c.requires.calls c.in-Done.ensures.calls;
  begins = c.in-Ok.ensures;
}

pub returns-clause-speech : goal.returns-clause-speech
returns-clause-speech g c =
    one_speaks (g.H.Host.links c.converse-ending.new.host) c.in-Done.link (g.H.Host.calls c.converse-ending.new.host)
    (c.converse-ending.ensures.links ∙ connected (g.H.Host.links c.args.host.now) (g.H.Host.links c.connect.new.self) c.in-Done.link c.requires.links c.in-Done.ensures.links)
    c.converse-ending.ensures.speech

pub returns-clause-ends : goal.returns-clause-ends
returns-clause-ends g c =
    one_ends c.args.path.now (g.H.Host.links c.converse-ending.new.host) c.in-Done.link c.report.result c.args.rounds c.converse-ending.result (g.H.Host.calls c.converse-ending.new.host) (g.K.Sink.written c.args.sink.now) (g.K.Sink.written c.report.new.sink)
    (c.converse-ending.ensures.links ∙ connected (g.H.Host.links c.args.host.now) (g.H.Host.links c.connect.new.self) c.in-Done.link c.requires.links c.in-Done.ensures.links)
    c.converse-ending.ensures.ends
    (on_link c.args.path.now c.in-Done.link (g.H.Host.calls c.args.host.now) (g.H.Host.calls c.connect.new.self) (g.H.Host.calls c.converse-ending.new.host) (IsRun (λ _. IsAfter) IsEmpty c.in-Done.link 4096 c.converse-ending.result c.args.rounds)
    c.requires.calls c.in-Done.ensures.calls (run_of c.in-Done.link c.args.rounds c.converse-ending.result (g.H.Host.calls c.connect.new.self) (g.H.Host.calls c.converse-ending.new.host) c.converse-ending.ensures.rounds))
    c.report.ensures.reports

pub returns-clause-causes : goal.returns-clause-causes
returns-clause-causes g c =
    causes c.converse-ending.result c.report.result (g.H.Host.faults c.args.host.now) (g.H.Host.faults c.converse-ending.new.host) (g.H.Host.link_faults c.args.host.now) (g.H.Host.link_faults c.converse-ending.new.host)
    (g.K.Sink.faults c.args.sink.now) (g.K.Sink.faults c.report.new.sink) (g.K.Sink.written c.args.sink.now) (g.K.Sink.written c.report.new.sink)
    (c.converse-ending.ensures.other ∙ c.in-Done.ensures.cause)
    (subst (λ (n : ℕ). Blames c.converse-ending.result n (g.H.Host.link_faults c.converse-ending.new.host)) c.connect.ensures.other c.converse-ending.ensures.cause)
    c.report.ensures.reports c.report.ensures.cause
