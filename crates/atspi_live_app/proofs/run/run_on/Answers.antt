use Rattle.std.proofs.Common.{◌≡◌, ℕ, List, subst, ◌∙◌, inl, inr}
use Rattle.atspi_live_conversation.proofs.Running.{connected, on_link}
use Rattle.atspi_live_app.specs.Lines.{lines_of}
use Rattle.atspi_live_app.specs.Rounds.{RunsPaced}
use Rattle.atspi_live_app.specs.Runs.{TextEnds}
use Rattle.atspi_live_app.proofs.Ending.{ended}
use Rattle.atspi_live_app.proofs.Statuses.{over_known}
use Rattle.atspi_live_app.proofs.run.run_on.Goals as goal

pub returns-clause-ends : goal.returns-clause-ends
returns-clause-ends g c =
    let same : c.new-end.result.input.text.items ≡ c.args.text.items = c.new-end.ensures.1.same in
    subst (λ (x : List ℕ). TextEnds (lines_of x) c.args.path.now (g.H.Host.links c.export-over.new.host) c.tell.result c.args.rounds (g.H.Host.calls c.export-over.new.host) (g.K.Sink.written c.args.sink.now) (g.K.Sink.written c.tell.new.sink)) same
    (ended (lines_of c.new-end.result.input.text.items) c.args.path.now (g.H.Host.links c.export-over.new.host) c.in-Done.link c.tell.result c.args.rounds c.export-over.result (g.H.Host.calls c.export-over.new.host)
    (g.K.Sink.written c.args.sink.now) (g.K.Sink.written c.tell.new.sink)
    (c.export-over.ensures.links ∙ connected (g.H.Host.links c.args.host.now) (g.H.Host.links c.connect.new.self) c.in-Done.link c.requires.links c.in-Done.ensures.links)
    c.export-over.ensures.over
    (on_link c.args.path.now c.in-Done.link (g.H.Host.calls c.args.host.now) (g.H.Host.calls c.connect.new.self) (g.H.Host.calls c.export-over.new.host)
    (RunsPaced (lines_of c.new-end.result.input.text.items) c.in-Done.link c.export-over.result c.args.rounds)
    c.requires.calls c.in-Done.ensures.calls c.export-over.ensures.paced)
    c.tell.ensures.reports)

pub returns-clause-known : goal.returns-clause-known
returns-clause-known g c = over_known c.export-over.result c.tell.result (g.K.Sink.written c.args.sink.now) (g.K.Sink.written c.tell.new.sink) c.tell.ensures.reports
