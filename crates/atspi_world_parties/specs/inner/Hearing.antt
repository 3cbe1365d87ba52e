-- Words that only the private contracts and proofs beside `Hearing` use.
use Rattle.std.specs.Prelude.{◌≡◌, ℕ, List, ◌++◌, Option}
use Rattle.atspi_message.specs.Envelope.{Envelope}
use Rattle.atspi_message.specs.Bytes.{IsMessage, written}
use Rattle.atspi_protocol.specs.registering.Steps.{Registry, takes}
use Rattle.atspi_world_parties.specs.Hearing.{HeardFront}

abbrev pub HearsFront : List ℕ → Registry → Registry → Option ℕ → Type 0
HearsFront bytes r t len = (m : Envelope) (rest : List ℕ) → IsMessage m (written m) → bytes ≡ written m ++ rest
    → HeardFront m r t len

-- and what lay behind it lies there still
pub record HeardOff (m : Envelope) (rest after : List ℕ) (r t : Registry) : Type 0 where
  pub left : after ≡ rest
  pub took : t ≡ takes r m

abbrev pub HearsOff : List ℕ → List ℕ → Registry → Registry → Type 0
HearsOff bytes after r t = (m : Envelope) (rest : List ℕ) → IsMessage m (written m) → bytes ≡ written m ++ rest
    → HeardOff m rest after r t
