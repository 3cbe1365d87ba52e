use Rattle.std.proofs.Common.{ℕ, refl, sym, subst, ◌∙◌, inl, inr, arith}
use Rattle.atspi_live_conversation.specs.Rounds.{IsRun, Makes}
use Rattle.atspi_live_conversation.specs.Talking.{Blames}
use Rattle.std.specs.Prelude.{List, []}
use Rattle.atspi_live_launcher.specs.inner.Talks.{HasNothing, IsSpentOf, StandsOf}
use Rattle.atspi_live_conversation.specs.Speech.{Ends, Speaks}
use Rattle.atspi_live_launcher.proofs.Running.{none_ends, none_speak, one_ends, one_speaks, run_of}
use Rattle.atspi_live_conversation.proofs.Running.{causes, connect_failed, connected, fresh, is_open, on_link}
use Rattle.atspi_live_launcher.specs.Standing.{IsAfter, IsEmpty}
use Rattle.atspi_live_launcher.proofs.run.launcher.Goals as goal

pub returns-in_default-clause-speech : goal.returns-in_default-clause-speech
returns-in_default-clause-speech g c = none_speak c.args.address (g.H.Host.links c.args.host.now) (g.H.Host.calls c.args.host.now) c.requires.links

pub returns-in_default-clause-ends : goal.returns-in_default-clause-ends
returns-in_default-clause-ends g c = none_ends c.args.path.now c.args.address (g.H.Host.links c.args.host.now) 5 c.args.rounds (g.H.Host.calls c.args.host.now) (g.K.Sink.written c.args.sink.now) c.requires.links (inr refl)

pub returns-in_default-clause-causes : goal.returns-in_default-clause-causes
returns-in_default-clause-causes g c = record { by_host = λ e. absurd (omega (arith, e)); no_host = inr (refl, refl); by_sink = λ e. absurd (omega (arith, e)); no_sink = inr refl }

pub returns-in_default-connect-clause-speech : goal.returns-in_default-connect-clause-speech
returns-in_default-connect-clause-speech g c =
    let f = connect_failed c.connect.result (g.H.Host.links c.args.host.now) (g.H.Host.links c.connect.new.self) (g.H.Host.faults c.args.host.now) (g.H.Host.faults c.connect.new.self)
    c.in_default-connect.not-Done c.connect.ensures.ready c.connect.ensures.links c.connect.ensures.cause
    in
    none_speak c.args.address (g.H.Host.links c.connect.new.self) (g.H.Host.calls c.connect.new.self) (f.1 ∙ c.requires.links)

pub returns-in_default-connect-clause-ends : goal.returns-in_default-connect-clause-ends
returns-in_default-connect-clause-ends g c =
    let f = connect_failed c.connect.result (g.H.Host.links c.args.host.now) (g.H.Host.links c.connect.new.self) (g.H.Host.faults c.args.host.now) (g.H.Host.faults c.connect.new.self)
    c.in_default-connect.not-Done c.connect.ensures.ready c.connect.ensures.links c.connect.ensures.cause
    in
    none_ends c.args.path.now c.args.address (g.H.Host.links c.connect.new.self) 7 c.args.rounds (g.H.Host.calls c.connect.new.self) (g.K.Sink.written c.args.sink.now) (f.1 ∙ c.requires.links) (inl refl)

pub returns-in_default-connect-clause-causes : goal.returns-in_default-connect-clause-causes
returns-in_default-connect-clause-causes g c =
    let f = connect_failed c.connect.result (g.H.Host.links c.args.host.now) (g.H.Host.links c.connect.new.self) (g.H.Host.faults c.args.host.now) (g.H.Host.faults c.connect.new.self)
    c.in_default-connect.not-Done c.connect.ensures.ready c.connect.ensures.links c.connect.ensures.cause
    in
    record { by_host = λ e. inl f.0; no_host = inl refl; by_sink = λ e. absurd (omega (arith, e)); no_sink = inr refl }

pub talk-ending-requires : goal.talk-ending-requires
talk-ending-requires g c = record {
  «open» = is_open (g.H.Host.links c.connect.new.self) c.in-Done.link (connected (g.H.Host.links c.args.host.now) (g.H.Host.links c.connect.new.self) c.in-Done.link c.requires.links c.in-Done.ensures.links);
  fresh = fresh (g.H.Host.calls c.args.host.now) (g.H.Host.calls c.connect.new.self) c.in-Done.link c.args.path.now c.requires.calls c.in-Done.ensures.calls;
  begins = subst (λ (a : List ℕ). StandsOf a c.in-Ok.end [] []) (sym c.in-Ok.ensures.address) c.in-Ok.ensures.begins;
}

pub returns-clause-speech : goal.returns-clause-speech
returns-clause-speech g c =
    one_speaks c.args.address (g.H.Host.links c.talk-ending.new.host) c.in-Done.link (g.H.Host.calls c.talk-ending.new.host)
    (c.talk-ending.ensures.links ∙ connected (g.H.Host.links c.args.host.now) (g.H.Host.links c.connect.new.self) c.in-Done.link c.requires.links c.in-Done.ensures.links)
    (subst (λ (a : List ℕ). Speaks (StandsOf a) c.in-Done.link (g.H.Host.calls c.talk-ending.new.host)) c.in-Ok.ensures.address c.talk-ending.ensures.speech)

pub returns-clause-ends : goal.returns-clause-ends
returns-clause-ends g c =
    one_ends c.args.path.now c.args.address (g.H.Host.links c.talk-ending.new.host) c.in-Done.link c.report.result c.args.rounds c.talk-ending.result (g.H.Host.calls c.talk-ending.new.host) (g.K.Sink.written c.args.sink.now) (g.K.Sink.written c.report.new.sink)
    (c.talk-ending.ensures.links ∙ connected (g.H.Host.links c.args.host.now) (g.H.Host.links c.connect.new.self) c.in-Done.link c.requires.links c.in-Done.ensures.links)
    (subst (λ (a : List ℕ). Ends (StandsOf a) IsSpentOf c.in-Done.link c.talk-ending.result c.args.rounds (g.H.Host.calls c.talk-ending.new.host)) c.in-Ok.ensures.address c.talk-ending.ensures.ends)
    (on_link c.args.path.now c.in-Done.link (g.H.Host.calls c.args.host.now) (g.H.Host.calls c.connect.new.self) (g.H.Host.calls c.talk-ending.new.host) (IsRun (λ _. IsAfter c.args.address) IsEmpty c.in-Done.link 4096 c.talk-ending.result c.args.rounds)
    c.requires.calls c.in-Done.ensures.calls (run_of c.args.address c.in-Done.link c.args.rounds c.talk-ending.result (g.H.Host.calls c.connect.new.self) (g.H.Host.calls c.talk-ending.new.host) (subst (λ (a : List ℕ). Makes (g.H.Host.calls c.connect.new.self) (g.H.Host.calls c.talk-ending.new.host) (IsRun (λ _. StandsOf a) HasNothing c.in-Done.link 4096 c.talk-ending.result c.args.rounds)) c.in-Ok.ensures.address c.talk-ending.ensures.rounds)))
    c.report.ensures.reports

pub returns-clause-causes : goal.returns-clause-causes
returns-clause-causes g c =
    causes c.talk-ending.result c.report.result (g.H.Host.faults c.args.host.now) (g.H.Host.faults c.talk-ending.new.host) (g.H.Host.link_faults c.args.host.now) (g.H.Host.link_faults c.talk-ending.new.host)
    (g.K.Sink.faults c.args.sink.now) (g.K.Sink.faults c.report.new.sink) (g.K.Sink.written c.args.sink.now) (g.K.Sink.written c.report.new.sink)
    (c.talk-ending.ensures.other ∙ c.in-Done.ensures.cause)
    (subst (λ (n : ℕ). Blames c.talk-ending.result n (g.H.Host.link_faults c.talk-ending.new.host)) c.connect.ensures.other c.talk-ending.ensures.cause)
    c.report.ensures.reports c.report.ensures.cause
