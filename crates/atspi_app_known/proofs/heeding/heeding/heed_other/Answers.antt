use Rattle.std.proofs.Common.{rules, true, sym, ◌∙◌}
use Rattle.std.specs.Prelude.{◌≡◌, is_some}
use Rattle.std.proofs.lemmas.Result.{on_ok_weaker}
use Rattle.atspi_message_in_place.specs.View.{envelope_at}
use Rattle.atspi_app_known.specs.starting.KnownView.{known_in}
use Rattle.atspi_app_known.proofs.OfHeeding.Heeded.{signal_heeded}
use Rattle.atspi_app_known.proofs.heeding.heeding.heed_other.Goals as goal

pub returns-then-message-eq4-clause-ok : goal.returns-then-message-eq4-clause-ok
returns-then-message-eq4-clause-ok c =
    let named : is_some c.args.known.now.name ≡ true = search rules in
    on_ok_weaker c.take_signal.result
    (λ h s. h s ∙ sym (signal_heeded (known_in c.args.known.now s) (envelope_at c.args.message.now) named c.if-message-eq4.true))
    c.take_signal.ensures.ok
