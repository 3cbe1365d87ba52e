use Rattle.atspi_message.proofs.OneReading.{one_reading}
use Rattle.atspi_message.proofs.laws.has_one_reading.Goals as goal

pub returns : goal.returns
returns c bytes h long = one_reading bytes h long
