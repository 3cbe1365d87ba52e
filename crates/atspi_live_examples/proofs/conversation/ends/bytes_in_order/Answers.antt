use Rattle.atspi_live_examples.proofs.OfConversation.Ended.{challenge, not_over, not_taken, nothing, over, taken}
use Rattle.atspi_live_examples.proofs.conversation.ends.bytes_in_order.Goals as goal

pub returns-clause-nothing : goal.returns-clause-nothing
returns-clause-nothing c = nothing

pub returns-clause-challenge : goal.returns-clause-challenge
returns-clause-challenge c = challenge

pub returns-clause-over : goal.returns-clause-over
returns-clause-over c = over

pub returns-clause-refused : goal.returns-clause-refused
returns-clause-refused c = not_over

pub returns-clause-taken : goal.returns-clause-taken
returns-clause-taken c = taken

pub returns-clause-not_taken : goal.returns-clause-not_taken
returns-clause-not_taken c = not_taken
