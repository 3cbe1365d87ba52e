use Rattle.std.proofs.Common.{sym, ◌∙◌}
use Rattle.atspi_message_in_place.specs.View.{envelope_at}
use Rattle.atspi_app_known.specs.starting.KnownView.{call_of, known_in}
use Rattle.atspi_app_known.proofs.OfHeeding.Heeded.{own_failed}
use Rattle.atspi_app_known.proofs.heeding.heeding.heed_own.Goals as goal

pub returns-clause-ok : goal.returns-clause-ok
returns-clause-ok c = λ s.
    c.end_start.ensures s ∙ sym (own_failed (known_in c.args.known.now s) (call_of c.args.step) (envelope_at c.args.message.now) c.if-message-eq2.false)
