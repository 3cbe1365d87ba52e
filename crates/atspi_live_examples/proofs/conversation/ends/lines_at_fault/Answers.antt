use Rattle.atspi_live_examples.proofs.OfConversation.Ended.{bare_more, not_refused, refused, refused_more, took_none}
use Rattle.atspi_live_examples.proofs.conversation.ends.lines_at_fault.Goals as goal

pub returns-clause-refused : goal.returns-clause-refused
returns-clause-refused c = refused

pub returns-clause-more : goal.returns-clause-more
returns-clause-more c = refused_more

pub returns-clause-bare : goal.returns-clause-bare
returns-clause-bare c = bare_more

pub returns-clause-in_order : goal.returns-clause-in_order
returns-clause-in_order c = not_refused

pub returns-clause-took_none : goal.returns-clause-took_none
returns-clause-took_none c = took_none
