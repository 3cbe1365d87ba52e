use Rattle.std.proofs.Common.{◌≡◌, ℕ, List, [], ◌∷◌, ◌++◌, refl, sym, ap, ◌∙◌, inl, append-nil}
use Rattle.std.specs.Prelude.{codes}
use Rattle.atspi_message.specs.Bytes.{written}
use Rattle.atspi_message.specs.Envelope.{Envelope}
use Rattle.atspi_live_conversation.specs.Sent.{AreSent}
use Rattle.atspi_live_examples.proofs.OfConversation.Logged.{none_some}
use Rattle.atspi_live_examples.proofs.conversation.promises.says.Goals as goal

nothing : (messages : List Envelope) (sent : List ℕ) → [] ≡ [] ++ messages → AreSent messages sent → sent ≡ []
nothing [] sent h a = a
nothing (m ∷ messages) sent h a = absurd (none_some m messages h)

pub returns-clause-none : goal.returns-clause-none
returns-clause-none c l unsent = record { messages = []; sent = []; spelled = refl; behind = sym (append-nil unsent); handed = λ took said s. (s.0, s.1 ∙ sym (append-nil said)) }

pub returns-clause-two : goal.returns-clause-two
returns-clause-two c e f g fits fits' = record {
  messages = e ∷ f ∷ [];
  sent = written e ++ written f;
  spelled = (written e, written f, inl (fits, refl), (written f, [], inl (fits', refl), refl, sym (append-nil (written f))), refl);
  behind = refl;
  handed = λ took said s. (s.0, ap (λ (es : List Envelope). es ++ e ∷ f ∷ []) s.1);
}

pub returns-clause-none_but_put : goal.returns-clause-none_but_put
returns-clause-none_but_put c l s = by s.sent (nothing s.messages s.sent (s.handed [] [] (refl, refl)).1 s.spelled) s.behind
  where
    by : (sent : List ℕ) → sent ≡ [] → codes "a" ≡ [] ++ sent → ⊥
    by sent e h = cc

pub returns-clause-bytes_lost : goal.returns-clause-bytes_lost
returns-clause-bytes_lost c s = by s.sent s.behind
  where
    by : (sent : List ℕ) → [] ≡ codes "a" ++ sent → ⊥
    by sent h = cc

pub returns-clause-took : goal.returns-clause-took
returns-clause-took c e unsent s = none_some e [] (sym (s.handed [] [] (refl, refl)).0)
