use Rattle.std.proofs.Common.{rules, refl}
use Rattle.atspi_live_conversation.proofs.conversation.Conversation.new.Goals as goal

pub returns : goal.returns
returns c = record { client = search rules; feeder = search rules; unsent = search rules; heard = refl }
