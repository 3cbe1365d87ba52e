use Rattle.atspi_message_forwarding.proofs.OfReadings.Readings.{asked_for}
use Rattle.atspi_message_forwarding.proofs.readings.laws.messages_are_asked_for.Goals as goal

pub returns : goal.returns
returns c e bytes is = asked_for e bytes is
