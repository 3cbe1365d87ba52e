use Rattle.std.proofs.Common.{[], ◌∷◌, ap, ◌∙◌}
use Rattle.std.proofs.lemmas.Result.{on_ok_weaker}
use Rattle.atspi_message.specs.Envelope.{Envelope}
use Rattle.atspi_protocol.specs.exporting.Exporter.{get_registered_events, awaits, queues, sends}
use Rattle.atspi_protocol.specs.exporting.Starting.{name_or_empty}
use Rattle.atspi_app_known.specs.happenings.View.{next_of}
use Rattle.atspi_app_known.specs.starting.KnownView.{known_in}
use Rattle.atspi_app_known.proofs.starting.known.Known.ask_events.Goals as goal

pub returns-clause-ok : goal.returns-clause-ok
returns-clause-ok c = on_ok_weaker c.ask_alone.result (λ e s.
    e s ∙ ap (λ (m : Envelope). record (queues (known_in c.args.self.now s) (sends m ∷ [])) { phase = awaits get_registered_events (next_of c.args.self.now.queue) }) (c.in_ok-call.ensures (name_or_empty c.args.self.now.name))) c.ask_alone.ensures.ok
