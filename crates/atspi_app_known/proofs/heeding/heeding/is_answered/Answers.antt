use Rattle.atspi_message_in_place.specs.View.{envelope_at}
use Rattle.atspi_app_known.specs.starting.KnownView.{known_in}
use Rattle.atspi_app_known.proofs.OfHeeding.Heeded.{awaited_is_own, not_awaited}
use Rattle.atspi_app_known.proofs.heeding.heeding.is_answered.Goals as goal

pub returns-in-Some : goal.returns-in-Some
returns-in-Some c = λ s. awaited_is_own (known_in c.args.known.now s) (envelope_at c.args.message.now) c.awaited.result c.in-Some.field-0 (c.awaited.ensures s) c.in-Some.is

pub returns-in-None : goal.returns-in-None
returns-in-None c = λ s. not_awaited (known_in c.args.known.now s) (envelope_at c.args.message.now) c.awaited.result c.has_ends.result (c.awaited.ensures s) c.in-None.is (c.has_ends.ensures s)
