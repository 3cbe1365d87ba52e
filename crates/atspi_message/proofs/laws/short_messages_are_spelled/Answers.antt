use Rattle.atspi_message.proofs.Short.{short_spelled}
use Rattle.atspi_message.proofs.laws.short_messages_are_spelled.Goals as goal

pub returns : goal.returns
returns c e h short = short_spelled e h short
