use Rattle.atspi_live_examples.proofs.OfConversation.Ended as ended
use Rattle.atspi_live_examples.proofs.conversation.going.broken_off.Goals as goal

pub returns-clause-refused : goal.returns-clause-refused
returns-clause-refused c = ended.refused

pub returns-clause-not_refused : goal.returns-clause-not_refused
returns-clause-not_refused c s = ended.not_refused s

pub returns-clause-fault : goal.returns-clause-fault
returns-clause-fault c e m bytes place reason is f = ended.second e m bytes place reason is f

pub returns-clause-fault_elsewhere : goal.returns-clause-fault_elsewhere
returns-clause-fault_elsewhere c bytes place reason s = ended.elsewhere bytes place reason s

pub returns-clause-spent : goal.returns-clause-spent
returns-clause-spent c e m is = ended.spends e m is

pub returns-clause-never_spent : goal.returns-clause-never_spent
returns-clause-never_spent c t s = s.spent

pub returns-clause-no_memory : goal.returns-clause-no_memory
returns-clause-no_memory c t = tt

pub returns-clause-rounds_done : goal.returns-clause-rounds_done
returns-clause-rounds_done c t s = s

pub returns-clause-peer_ended : goal.returns-clause-peer_ended
returns-clause-peer_ended c t s = s

pub returns-clause-host_failed : goal.returns-clause-host_failed
returns-clause-host_failed c t s = s

pub returns-clause-piece_refused : goal.returns-clause-piece_refused
returns-clause-piece_refused c h = ended.at_fault h

pub returns-clause-piece_heard : goal.returns-clause-piece_heard
returns-clause-piece_heard c h = h ended.over.authenticated
