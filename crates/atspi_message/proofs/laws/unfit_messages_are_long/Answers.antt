use Rattle.atspi_message.proofs.Short.{unfit_long}
use Rattle.atspi_message.proofs.laws.unfit_messages_are_long.Goals as goal

pub returns : goal.returns
returns c e h unfit = unfit_long e h unfit
