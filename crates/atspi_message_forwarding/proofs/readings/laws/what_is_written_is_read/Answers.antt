use Rattle.atspi_message_forwarding.proofs.OfReadings.Readings.{read_back}
use Rattle.atspi_message_forwarding.proofs.readings.laws.what_is_written_is_read.Goals as goal

pub returns : goal.returns
returns c e meets named fits = read_back e meets named fits
