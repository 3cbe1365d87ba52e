-- Laws of messages and their bytes.
use Rattle.std.specs.Prelude.{◌≡◌, ◌⊎◌, ◌<◌, ℕ, List, [], ◌++◌, length, take, slice_index}
use Rattle.atspi_message.specs.Envelope.{Envelope}
use Rattle.atspi_message.specs.Rules.{MeetsRules, HasNames}
use Rattle.atspi_message.specs.Bytes.{FitsWire, IsMessage, rising_fields, written}
use Rattle.atspi_message.specs.Front.{length_in}
use Rattle.atspi_message.specs.Faults.{FirstFault}

-- no message's bytes are a proper front of those of another
abbrev pub NoFrontOfAnother : Type 0
NoFrontOfAnother = (e d : Envelope) (bytes more : List ℕ) → IsMessage e bytes → IsMessage d (bytes ++ more) → more ≡ []

-- what is written is a message's bytes, which are read as this message and no other
abbrev pub IsReadAgain : Type 0
IsReadAgain = (e : Envelope) → MeetsRules e → HasNames e → FitsWire e (rising_fields e) → IsMessage e (written e)

-- bytes that are one message, and have no fault
pub record HasOneMessage (bytes : List ℕ) : Type 0 where
  pub message : Envelope
  pub is : IsMessage message bytes
  pub one : (e : Envelope) → IsMessage e bytes → e ≡ message
  pub faultless : (place reason : ℕ) → FirstFault bytes place reason → ⊥

-- bytes that have one first fault, and are no message
pub record HasOneFault (bytes : List ℕ) : Type 0 where
  pub place : ℕ
  pub reason : ℕ
  pub is : FirstFault bytes place reason
  pub one : (q s : ℕ) → FirstFault bytes q s → (q ≡ place) × (s ≡ reason)
  pub no_message : (e : Envelope) → IsMessage e bytes → ⊥

-- bytes as long as they state are one message or have one first fault
abbrev pub HasOneReading : Type 0
HasOneReading = (bytes : List ℕ) → ((i : ℕ) → slice_index bytes i < 256) → length_in (take 16 bytes) ≡ length bytes
    → HasOneMessage bytes ⊎ HasOneFault bytes
