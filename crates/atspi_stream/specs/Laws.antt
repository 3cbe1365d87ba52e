-- Laws of streams.
use Rattle.std.specs.Prelude.{◌≡◌, ◌⊎◌, ◌<◌, ℕ, List, ◌++◌, slice_index}
use Rattle.atspi_message.specs.Envelope.{Envelope}
use Rattle.atspi_stream.specs.Stream.{AwaitsMore, HasFault, BeginsWithMessage, IsParted}

-- what bytes of a stream have: a fault
pub record IsAtFault (held : List ℕ) : Type 0 where
  pub place : ℕ
  pub reason : ℕ
  pub is : HasFault held place reason

-- Bytes await more, begin with a message or have a fault: exactly one of these, and the message and the fault are one.
pub record HasOneAnswer (held : List ℕ) : Type 0 where
  pub some : AwaitsMore held ⊎ (BeginsWithMessage held ⊎ IsAtFault held)
  pub waits_without_message : AwaitsMore held → BeginsWithMessage held → ⊥
  pub waits_without_fault : AwaitsMore held → IsAtFault held → ⊥
  pub message_without_fault : BeginsWithMessage held → IsAtFault held → ⊥
  pub one_message : (m n : BeginsWithMessage held) → (m.envelope ≡ n.envelope) × (m.bytes ≡ n.bytes) × (m.rest ≡ n.rest)
  pub one_fault : (p r q s : ℕ) → HasFault held p r → HasFault held q s → (p ≡ q) × (r ≡ s)

-- every number of the list is a byte
abbrev pub AreBytes : List ℕ → Type 0
AreBytes bytes = (i : ℕ) → slice_index bytes i < 256

abbrev pub EachHasOneAnswer : Type 0
EachHasOneAnswer = (held : List ℕ) → AreBytes held → HasOneAnswer held

-- a fault stays whatever is fed behind it
abbrev pub FaultStays : Type 0
FaultStays = (held more : List ℕ) (place reason : ℕ) → HasFault held place reason → HasFault (held ++ more) place reason

-- Bytes are messages and a rest that begins with none in one way alone, however they were cut.
abbrev pub AnyCut : Type 0
AnyCut = (bytes : List ℕ) (given found : List (Envelope × List ℕ)) (rest more : List ℕ) → AreBytes bytes
    → IsParted bytes given rest → (BeginsWithMessage rest → ⊥) → IsParted bytes found more
    → (BeginsWithMessage more → ⊥)
    → (given ≡ found) × (rest ≡ more)
