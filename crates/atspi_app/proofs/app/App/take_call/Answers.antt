use Rattle.atspi_app.proofs.FaultsOf.{want_is_not_spent}
use Rattle.atspi_app.proofs.app.App.take_call.Goals as goal

pub returns-in-Err-clause-spent : goal.returns-in-Err-clause-spent
returns-in-Err-clause-spent g c = λ h. absurd (want_is_not_spent c.from.result c.from.ensures h)
