use Rattle.std.proofs.Common.{[], arith, lit<}
use Rattle.atspi_stream.specs.Stream.{HasFault, few, in_front, behind}
use Rattle.atspi_live_examples.proofs.OfConversation.Ended.{not_awaited}
use Rattle.atspi_live_examples.proofs.conversation.promises.ends_of_what_is_held.Goals as goal

pub returns-clause-nothing : goal.returns-clause-nothing
returns-clause-nothing c = few (lit< tt)

pub returns-clause-message : goal.returns-clause-message
returns-clause-message c e bytes is held = not_awaited e bytes is held

pub returns-clause-fault : goal.returns-clause-fault
returns-clause-fault c bytes place reason f = f

pub returns-clause-no_fault : goal.returns-clause-no_fault
returns-clause-no_fault c place reason f = by f
  where
    by : HasFault [] place reason → ⊥
    by (in_front long is) = omega (arith, long)
    by (behind long sound enough is) = omega (arith, long)
