use Rattle.std.proofs.Common.{List, [], ◌∷◌, ◌++◌, ap, ◌∙◌}
use Rattle.std.proofs.lemmas.Result.{on_ok_weaker}
use Rattle.atspi_message.specs.Envelope.{envelope_of}
use Rattle.atspi_protocol.specs.exporting.Exporter.{Happening, awaits, queues, sends}
use Rattle.atspi_app_known.specs.happenings.View.{next_of}
use Rattle.atspi_app_known.specs.starting.KnownView.{call_of, known_in}
use Rattle.atspi_app_known.proofs.starting.known.Known.ask_alone.Goals as goal

pub returns-clause-ok : goal.returns-clause-ok
returns-clause-ok c = on_ok_weaker c.ask.result (λ e s.
    e s ∙ ap (λ (hs : List Happening). record (queues (known_in c.args.self.now s) (hs ++ sends (envelope_of c.args.call) ∷ [])) { phase = awaits (call_of c.args.step) (next_of c.args.self.now.queue) }) c.new-told.ensures) c.ask.ensures.ok
