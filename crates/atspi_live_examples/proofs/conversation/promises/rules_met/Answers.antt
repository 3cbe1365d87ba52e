use Rattle.std.proofs.Common.{arith}
use Rattle.atspi_live_examples.proofs.OfConversation.Logged.{not_ruled, ruled}
use Rattle.atspi_live_examples.proofs.conversation.promises.rules_met.Goals as goal

pub returns-clause-none : goal.returns-clause-none
returns-clause-none c = tt

pub returns-clause-two : goal.returns-clause-two
returns-clause-two c = (ruled 1 (λ e. omega (arith, e)), (ruled 2 (λ e. omega (arith, e)), tt))

pub returns-clause-first : goal.returns-clause-first
returns-clause-first c all = not_ruled all.0

pub returns-clause-last : goal.returns-clause-last
returns-clause-last c all = not_ruled all.1.0
