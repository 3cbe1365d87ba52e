use Rattle.std.proofs.Common.{◌≡◌, ℕ, List, [], ◌∷◌, ◌++◌, refl, sym, ap, ◌∙◌, append-nil, append_assoc}
use Rattle.std.specs.Prelude.{codes}
use Rattle.atspi_message.specs.Envelope.{Envelope}
use Rattle.atspi_live_examples.proofs.OfConversation.Ended.{none_begun}
use Rattle.atspi_live_examples.proofs.OfConversation.Logged.{held_still, none_some}
use Rattle.atspi_live_examples.proofs.conversation.promises.attends.Goals as goal

pub returns-clause-none : goal.returns-clause-none
returns-clause-none c l held = record { messages = []; parted = record { are = tt; parted = refl }; took = λ took said s. (s.0 ∙ sym (append-nil took), s.1) }

pub returns-clause-two : goal.returns-clause-two
returns-clause-two c e f g m n rest is is' = record {
  messages = (e, m) ∷ (f, n) ∷ [];
  parted = record { are = (is, (is', tt)); parted = ap (λ (xs : List ℕ). m ++ xs) (ap (λ (xs : List ℕ). xs ++ rest) (sym (append-nil n))) ∙ sym (append_assoc m (n ++ []) rest) };
  took = λ took said s. (ap (λ (es : List Envelope). es ++ e ∷ f ∷ []) s.0, s.1);
}

pub returns-clause-bytes_lost : goal.returns-clause-bytes_lost
returns-clause-bytes_lost c a = by (held_still (codes "ab") (codes "b") a)
  where
    by : codes "ab" ≡ codes "b" → ⊥
    by h = cc

pub returns-clause-not_taken : goal.returns-clause-not_taken
returns-clause-not_taken c e m is a = none_begun e m [] is (sym (held_still m [] a) ∙ sym (append-nil m))

pub returns-clause-handed_out : goal.returns-clause-handed_out
returns-clause-handed_out c e held a = none_some e [] (sym (a.took [] [] (refl, refl)).1)
