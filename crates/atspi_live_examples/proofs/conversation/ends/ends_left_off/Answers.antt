use Rattle.std.proofs.Common.{◌≡◌, List, [], ◌∷◌, ℕ, refl, lit<}
use Rattle.std.specs.Prelude.{codes}
use Rattle.atspi_message.specs.Envelope.{Envelope}
use Rattle.atspi_stream.specs.Stream.{few}
use Rattle.atspi_live_examples.proofs.OfConversation.Ended.{bare, bare_granted}
use Rattle.atspi_live_examples.proofs.conversation.ends.ends_left_off.Goals as goal

pub returns-clause-refused : goal.returns-clause-refused
returns-clause-refused c = record { messages = []; rest = []; parted = record { are = tt; parted = bare }; said = []; stands = (refl, refl); stops = (refl, refl) }

pub returns-clause-bytes_left : goal.returns-clause-bytes_left
returns-clause-bytes_left c s = by s.1
  where
    by : codes "l" ≡ [] → ⊥
    by h = cc

pub returns-clause-took_one : goal.returns-clause-took_one
returns-clause-took_one c e bytes s = by (e, bytes) s.0
  where
    by : (m : Envelope × List ℕ) → m ∷ [] ≡ [] → ⊥
    by m h = cc

pub returns-clause-peer_ended : goal.returns-clause-peer_ended
returns-clause-peer_ended c = record { messages = []; rest = []; parted = record { are = tt; parted = bare_granted }; said = []; stands = (refl, refl); stops = few (lit< tt) }
