use Rattle.std.proofs.Common.{◌≡◌, ◌<◌, ℕ, List, [], ◌∷◌, ◌++◌, length, refl, sym, ap, ◌∙◌, append_assoc, arith, lit<}
use Rattle.atspi_auth.specs.Talk.{behind, client_start}
use Rattle.atspi_message.specs.Envelope.{Envelope}
use Rattle.atspi_stream.specs.Stream.{IsParted, bytes_of, few}
use Rattle.atspi_live_conversation.specs.Speech.{envelopes}
use Rattle.atspi_live_conversation.proofs.LineLemmas.{none_behind}
use Rattle.atspi_live_conversation.proofs.SentLemmas.{shorter}
use Rattle.atspi_live_reader.specs.Spoken.{following, spoken_in}
use Rattle.atspi_live_examples.proofs.reader.spoken.all_of_nothing.Goals as goal

-- no message stands in no bytes
no_messages : (messages : List (Envelope × List ℕ)) (bytes rest : List ℕ) → bytes ≡ [] → IsParted bytes messages rest → messages ≡ []
no_messages [] bytes rest none p = refl
no_messages (m ∷ messages) bytes rest none p =
    absurd (too_long (shorter m.0 m.1 [] (bytes_of messages ++ rest) p.are.0 (sym none ∙ p.parted ∙ append_assoc m.1 (bytes_of messages) rest)))
  where
    too_long : length (bytes_of messages ++ rest) < 0 → ⊥
    too_long h = omega (arith, h)

pub returns-clause-spoken : goal.returns-clause-spoken
returns-clause-spoken c = record { messages = []; rest = []; parted = record { are = tt; parted = none_behind }; awaits = few (lit< tt); all = refl }

pub returns-clause-shown : goal.returns-clause-shown
returns-clause-shown c = record { messages = []; rest = []; parted = record { are = tt; parted = none_behind }; awaits = few (lit< tt); all = refl }

pub returns-clause-no_more : goal.returns-clause-no_more
returns-clause-no_more c w s =
    s.all ∙ ap (λ (ms : List (Envelope × List ℕ)). spoken_in (following (envelopes ms)).out) (no_messages s.messages (behind client_start []) s.rest none_behind s.parted)
