use Rattle.atspi_message.proofs.Rising.{written_is}
use Rattle.atspi_message.proofs.laws.is_read_again.Goals as goal

pub returns : goal.returns
returns c e meets named fits = written_is e meets named fits
