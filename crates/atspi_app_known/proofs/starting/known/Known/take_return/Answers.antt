use Rattle.std.proofs.Common.{sym, ap, ◌∙◌}
use Rattle.std.proofs.lemmas.Result.{on_ok_weaker}
use Rattle.atspi_marshal_in_place.specs.Items.{fields_data}
use Rattle.atspi_protocol.specs.exporting.Starting.{goes_on}
use Rattle.atspi_protocol.specs.exporting.Taking.{is_spent}
use Rattle.atspi_app_known.specs.declared.starting.waiting.StartStep.{StartStep}
use Rattle.atspi_app_known.specs.starting.KnownView.{call_of, known_in}
use Rattle.atspi_app_known.proofs.starting.known.Known.take_return.Goals as goal

pub returns-in-AddMatch-clause-ok : goal.returns-in-AddMatch-clause-ok
returns-in-AddMatch-clause-ok c = on_ok_weaker c.ask_events.result (λ e s.
    e s ∙ ap (λ (step : StartStep). goes_on (known_in c.args.self.now s) (call_of step) (fields_data c.args.values)) (sym c.in-AddMatch.is)) c.ask_events.ensures.ok

pub returns-in-AddMatch-clause-spent : goal.returns-in-AddMatch-clause-spent
returns-in-AddMatch-clause-spent c = λ h s.
    ap (λ (step : StartStep). is_spent (goes_on (known_in c.args.self.now s) (call_of step) (fields_data c.args.values))) c.in-AddMatch.is ∙ c.ask_events.ensures.spent h s

pub returns-in-Embed-clause-ok : goal.returns-in-Embed-clause-ok
returns-in-Embed-clause-ok c = λ s.
    c.end_start.ensures s ∙ ap (λ (step : StartStep). goes_on (known_in c.args.self.now s) (call_of step) (fields_data c.args.values)) (sym c.in-Embed.is)
