use Rattle.std.proofs.Common.{sym, ap, ◌∙◌}
use Rattle.std.proofs.lemmas.Result.{on_ok_weaker}
use Rattle.atspi_message_in_place.specs.View.{envelope_at}
use Rattle.atspi_protocol.specs.exporting.Taking.{is_spent}
use Rattle.atspi_app_known.specs.starting.KnownView.{known_in}
use Rattle.atspi_app_known.proofs.OfHeeding.Heeded.{own_heeded, other_heeded}
use Rattle.atspi_app_known.proofs.heeding.heeding.heed.Goals as goal

pub returns-in-Some-clause-ok : goal.returns-in-Some-clause-ok
returns-in-Some-clause-ok c =
    on_ok_weaker c.heed_own.result
    (λ h s. h s ∙ sym (own_heeded (known_in c.args.known.now s) (envelope_at c.args.message.now) c.awaited.result c.in-Some.step (c.awaited.ensures s) c.in-Some.is))
    c.heed_own.ensures.ok

pub returns-in-Some-clause-spent : goal.returns-in-Some-clause-spent
returns-in-Some-clause-spent c = λ h s.
    ap is_spent (own_heeded (known_in c.args.known.now s) (envelope_at c.args.message.now) c.awaited.result c.in-Some.step (c.awaited.ensures s) c.in-Some.is)
    ∙ c.heed_own.ensures.spent h s

pub returns-in-None-clause-ok : goal.returns-in-None-clause-ok
returns-in-None-clause-ok c =
    on_ok_weaker c.heed_other.result
    (λ h s. h s ∙ sym (other_heeded (known_in c.args.known.now s) (envelope_at c.args.message.now) c.awaited.result (c.awaited.ensures s) c.in-None.is))
    c.heed_other.ensures.ok
