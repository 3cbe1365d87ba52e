use Rattle.std.proofs.Common.{ℕ, List, [], length, refl, sym, ap, subst, ◌∙◌, append-nil, arith}
use Rattle.atspi_stream.specs.Stream.{AwaitsMore, HasFault, IsParted, few, in_front}
use Rattle.atspi_stream.specs.Stream as stream
use Rattle.atspi_live_examples.specs.conversation.Logs.{fresh}
use Rattle.atspi_live_examples.proofs.OfConversation.Logged.{held_still}
use Rattle.atspi_live_examples.proofs.conversation.going.not_told.Goals as goal

no_fault : (place reason : ℕ) → HasFault [] place reason → ⊥
no_fault place reason (in_front long is) = omega (arith, long)
no_fault place reason (stream.behind long sound enough is) = omega (arith, long)

pub returns-clause-fault : goal.returns-clause-fault
returns-clause-fault c bytes place reason f = (bytes, record { attends = record { messages = []; parted = record { are = tt; parted = refl }; took = λ took said s. (s.0 ∙ sym (append-nil took), s.1) }; ends = f }, omega arith)

pub returns-clause-fault_elsewhere : goal.returns-clause-fault_elsewhere
returns-clause-fault_elsewhere c bytes place reason t = omega (arith, t.2, ap (λ (held : List ℕ). length held) (held_still bytes t.0 t.1.attends))

pub returns-clause-no_fault : goal.returns-clause-no_fault
returns-clause-no_fault c place reason t = no_fault place reason (subst (λ (held : List ℕ). HasFault held place reason) (sym (held_still [] t.0 t.1.attends)) t.1.ends)

pub returns-clause-spent : goal.returns-clause-spent
returns-clause-spent c e m is = record {
  message = e;
  bytes = m;
  rest = [];
  is = is;
  end = fresh;
  attends = record { messages = []; parted = record { are = tt; parted = sym (append-nil m) }; took = λ took said s. (s.0 ∙ sym (append-nil took), s.1) };
  spent = refl;
  rests = λ took said s. s;
}

pub returns-clause-never_spent : goal.returns-clause-never_spent
returns-clause-never_spent c s = s.spent

pub returns-clause-no_memory : goal.returns-clause-no_memory
returns-clause-no_memory c = tt

pub returns-clause-peer_ended : goal.returns-clause-peer_ended
returns-clause-peer_ended c s = s

pub returns-clause-refused : goal.returns-clause-refused
returns-clause-refused c s = s
