use Rattle.atspi_message_forwarding.proofs.OfReadings.Readings.{one_value_or_fault}
use Rattle.atspi_message_forwarding.proofs.readings.laws.values_have_one_reading.Goals as goal

pub returns : goal.returns
returns c o bytes k at h lawful low = one_value_or_fault o bytes k at h lawful low
