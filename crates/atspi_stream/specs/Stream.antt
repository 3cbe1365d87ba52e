-- What bytes of a stream are: whole messages, and behind them a rest that awaits more or has a fault.
use Rattle.std.specs.Prelude.{◌≡◌, ◌<◌, ◌≤◌, ℕ, List, [], ◌∷◌, ◌++◌, length, take}
use Rattle.atspi_message.specs.Envelope.{Envelope}
use Rattle.atspi_message.specs.Bytes.{IsMessage}
use Rattle.atspi_message.specs.Front.{length_in, WrongFront, IsFirst, IsSoundFront}
use Rattle.atspi_message.specs.Faults.{FirstFault}
use Rattle.atspi_message_in_place.specs.View.{envelope_at}
use Rattle.atspi_stream.specs.declared.feeder.Got.{Got}
use Rattle.atspi_stream.specs.declared.feeder.Got.TheVariants.{Message, NotYet, Bad}

-- the length that the first 16 bytes state
abbrev pub stated : List ℕ → ℕ
stated held = length_in (take 16 held)

-- as many bytes as the first 16 state
abbrev pub first_bytes : List ℕ → List ℕ
first_bytes held = take (stated held) held

-- More bytes are awaited: fewer than 16 are there; or the first 16 are sound, and fewer are there than they state.
pub data AwaitsMore (held : List ℕ) : Type 0 where
  few : length held < 16 → AwaitsMore held
  unfinished : 16 ≤ length held → IsSoundFront (take 16 held) → length held < stated held → AwaitsMore held

-- The first thing that is wrong: with the first 16 bytes; or, where these are sound and as many bytes are there as they
-- state, with those bytes.
pub data HasFault (held : List ℕ) (place reason : ℕ) : Type 0 where
  in_front : 16 ≤ length held → IsFirst (WrongFront (take 16 held)) place reason → HasFault held place reason
  behind : 16 ≤ length held → IsSoundFront (take 16 held) → stated held ≤ length held
      → FirstFault (first_bytes held) place reason → HasFault held place reason

-- a whole message stands at the front
pub record BeginsWithMessage (held : List ℕ) : Type 0 where
  pub envelope : Envelope
  pub bytes : List ℕ
  pub rest : List ℕ
  pub is : IsMessage envelope bytes
  pub front : held ≡ bytes ++ rest

-- messages, each with its bytes
abbrev pub AreMessages : List (Envelope × List ℕ) → Type 0
AreMessages [] = Unit {0}
AreMessages (m ∷ ms) = IsMessage m.0 m.1 × AreMessages ms

-- their bytes, one message behind the other
abbrev pub bytes_of : List (Envelope × List ℕ) → List ℕ
bytes_of [] = []
bytes_of (m ∷ ms) = m.1 ++ bytes_of ms

-- the bytes are those of these messages, in order, and behind them a rest
pub record IsParted (bytes : List ℕ) (messages : List (Envelope × List ℕ)) (rest : List ℕ) : Type 0 where
  pub are : AreMessages messages
  pub parted : bytes ≡ bytes_of messages ++ rest

-- whatever was fed and given before, with these bytes held: now a piece was fed
abbrev pub TakesPiece : List ℕ → List ℕ → List ℕ → Type 0
TakesPiece old piece new = (fed : List ℕ) (given : List (Envelope × List ℕ)) → IsParted fed given old
    → IsParted (fed ++ piece) given new

-- a message that is given stood with its bytes at the front, and these are gone
abbrev pub GivesMessage : Got → List ℕ → List ℕ → Type 0
GivesMessage (Message m) old new = (bytes : List ℕ) × IsMessage (envelope_at m) bytes × (old ≡ bytes ++ new)
GivesMessage _ old new = Unit {0}

-- the answer is this message
abbrev pub IsMessageGiven : Got → Envelope → Type 0
IsMessageGiven (Message m) e = envelope_at m ≡ e
IsMessageGiven NotYet e = ⊥
IsMessageGiven (Bad f) e = ⊥

-- "not yet" comes only where more bytes are awaited
abbrev pub WaitsRightly : Got → List ℕ → Type 0
WaitsRightly NotYet held = AwaitsMore held
WaitsRightly _ held = Unit {0}

-- a fault that is told is the first
abbrev pub TellsFault : Got → List ℕ → Type 0
TellsFault (Bad f) held = HasFault held f.place f.reason
TellsFault _ held = Unit {0}

-- the answer is this fault
abbrev pub IsFaultTold : Got → ℕ → ℕ → Type 0
IsFaultTold (Message m) place reason = ⊥
IsFaultTold NotYet place reason = ⊥
IsFaultTold (Bad f) place reason = (f.place ≡ place) × (f.reason ≡ reason)

-- unless a message was given all bytes are held as before
abbrev pub KeepsHeld : Got → List ℕ → List ℕ → Type 0
KeepsHeld (Message m) old new = Unit {0}
KeepsHeld _ old new = new ≡ old

-- whatever was fed and given before, with these bytes held: the message that is given stands behind those given
abbrev pub HandsOut : Got → List ℕ → List ℕ → Type 0
HandsOut (Message m) old new = (fed : List ℕ) (given : List (Envelope × List ℕ)) → IsParted fed given old
    → (bytes : List ℕ) × IsParted fed (given ++ (envelope_at m, bytes) ∷ []) new
HandsOut _ old new = Unit {0}

-- What is held behind an answer.
pub record Leaves (result : Got) (old new : List ℕ) : Type 0 where
  pub message : GivesMessage result old new
  pub kept : KeepsHeld result old new
  -- all bytes fed are those of the messages given, and behind them those that are held
  pub history : HandsOut result old new
