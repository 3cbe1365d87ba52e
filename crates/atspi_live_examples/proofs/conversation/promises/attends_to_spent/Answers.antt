use Rattle.std.proofs.Common.{ℕ, List, [], ◌∷◌, ◌++◌, refl, sym, ap, ◌∙◌, append-nil, append_assoc}
use Rattle.atspi_message.specs.Envelope.{Envelope}
use Rattle.atspi_stream.specs.Stream.{IsParted, bytes_of}
use Rattle.atspi_live_conversation.specs.Speech.{envelopes}
use Rattle.atspi_live_examples.specs.conversation.Logs.{fresh}
use Rattle.atspi_live_examples.proofs.OfConversation.Ended.{none_begun}
use Rattle.atspi_live_examples.proofs.OfConversation.Logged.{none_some, takes_one}
use Rattle.atspi_live_examples.proofs.conversation.promises.attends_to_spent.Goals as goal

pub returns-clause-first : goal.returns-clause-first
returns-clause-first c e m rest is = record {
  message = e;
  bytes = m;
  rest = rest;
  is = is;
  end = fresh;
  attends = record { messages = []; parted = record { are = tt; parted = refl }; took = λ took said s. (s.0 ∙ sym (append-nil took), s.1) };
  spent = refl;
  rests = λ took said s. s;
}

pub returns-clause-second : goal.returns-clause-second
returns-clause-second c e f m n rest is is' = record {
  message = f;
  bytes = n;
  rest = rest;
  is = is';
  end = (e ∷ [], []);
  attends = record { messages = (e, m) ∷ []; parted = record { are = (is, tt); parted = ap (λ (xs : List ℕ). xs ++ (n ++ rest)) (sym (append-nil m)) }; took = takes_one [] [] e };
  spent = refl;
  rests = λ took said s. s;
}

pub returns-clause-none_would : goal.returns-clause-none_would
returns-clause-none_would c held old new a = a.spent

pub returns-clause-no_message : goal.returns-clause-no_message
returns-clause-no_message c e old new a = by a.attends.messages a.attends.parted
  where
    by : (messages : List (Envelope × List ℕ)) → IsParted [] messages (a.bytes ++ a.rest) → ⊥
    by [] p = none_begun a.message a.bytes a.rest a.is p.parted
    by (m ∷ messages) p = none_begun m.0 m.1 (bytes_of messages ++ (a.bytes ++ a.rest)) p.are.0 (p.parted ∙ append_assoc m.1 (bytes_of messages) (a.bytes ++ a.rest))

pub returns-clause-answered : goal.returns-clause-answered
returns-clause-answered c e f held a = none_some f [] (sym (a.rests (envelopes a.attends.messages) [] (a.attends.took [] [] (refl, refl))).1)

pub returns-clause-lost_one : goal.returns-clause-lost_one
returns-clause-lost_one c e f held a = none_some f (envelopes a.attends.messages) (a.rests (f ∷ envelopes a.attends.messages) [] (a.attends.took (f ∷ []) [] (refl, refl))).0
