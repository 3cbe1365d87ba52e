use Rattle.atspi_live_examples.proofs.OfConversation.Ended.{elsewhere, first, second}
use Rattle.atspi_live_examples.proofs.conversation.ends.bytes_at_fault.Goals as goal

pub returns-clause-first : goal.returns-clause-first
returns-clause-first c = first

pub returns-clause-second : goal.returns-clause-second
returns-clause-second c = second

pub returns-clause-elsewhere : goal.returns-clause-elsewhere
returns-clause-elsewhere c = elsewhere
