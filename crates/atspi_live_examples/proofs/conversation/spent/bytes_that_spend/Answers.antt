use Rattle.atspi_live_examples.proofs.OfConversation.Ended.{no_spending, spends, spends_second}
use Rattle.atspi_live_examples.proofs.conversation.spent.bytes_that_spend.Goals as goal

pub returns-clause-first : goal.returns-clause-first
returns-clause-first c = spends

pub returns-clause-second : goal.returns-clause-second
returns-clause-second c = spends_second

pub returns-clause-none_would : goal.returns-clause-none_would
returns-clause-none_would c t s = s.spent

pub returns-clause-no_message : goal.returns-clause-no_message
returns-clause-no_message c = no_spending
