use Rattle.std.proofs.Common.{[], ◌∷◌, refl, sym}
use Rattle.atspi_live_host.specs.declared.call.Call.TheVariants.{Close}
use Rattle.atspi_live_examples.proofs.OfConversation.Conversing as conversing
use Rattle.atspi_live_examples.proofs.conversation.going.next_calls.Goals as goal

pub returns-clause-by_what_moved : goal.returns-clause-by_what_moved
returns-clause-by_what_moved c n going = (Close 0 ∷ [], (sym going.tells.0, sym going.tells.1, refl), refl)

pub returns-clause-none_made : goal.returns-clause-none_made
returns-clause-none_made c m = (m 0 conversing.going).1

pub returns-clause-did_not_go_on : goal.returns-clause-did_not_go_on
returns-clause-did_not_go_on c n going = absurd going.at_ease.converses.end_stands
