-- What the registry takes of the bytes that lie at its end, at its start: nothing of that is told.
use Rattle.std.specs.Prelude.{◌≡◌, ℕ, List, length, Option, Some, slice_get, slice_set, []}
use Rattle.atspi_message.specs.Envelope.{Envelope}
use Rattle.atspi_message.specs.Bytes.{IsMessage, written}
use Rattle.atspi_protocol.specs.registering.Steps.{Registry, takes}

-- of bytes that begin with a message: it took that, and it is so long
pub record HeardFront (m : Envelope) (r t : Registry) (len : Option ℕ) : Type 0 where
  pub long : len ≡ Some (length (written m))
  pub took : t ≡ takes r m

-- the same of a message that lies whole and alone at the end of a connection
pub record HeardAt (m : Envelope) (given given' : List (List ℕ)) (conn : ℕ) (r t : Registry) : Type 0 where
  pub gone : given' ≡ slice_set given conn []
  pub took : t ≡ takes r m

abbrev pub HearsAt : List (List ℕ) → List (List ℕ) → ℕ → Registry → Registry → Type 0
HearsAt given given' conn r t = (m : Envelope) → IsMessage m (written m) → slice_get given conn ≡ Some (written m)
    → HeardAt m given given' conn r t
