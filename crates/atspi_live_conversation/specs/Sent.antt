-- The bytes that an end sends for its messages.
use Rattle.std.specs.Prelude.{◌≡◌, ◌⊎◌, ℕ, List, [], ◌∷◌, ◌++◌}
use Rattle.atspi_message.specs.Envelope.{Envelope}
use Rattle.atspi_message.specs.Rules.{MeetsRules}
use Rattle.atspi_message.specs.Bytes.{FitsWire, rising_fields, written}

-- a message keeps the limits of the wire where it is written
abbrev pub Fits : Envelope → Type 0
Fits e = FitsWire e (rising_fields e)

-- behind some bytes the message was put as it is written; or it passes the limits of the wire, and is left out
abbrev pub IsSent : Envelope → List ℕ → List ℕ → Type 0
IsSent e old new = (Fits e × (new ≡ old ++ written e)) ⊎ ((¬ Fits e) × (new ≡ old))

-- the bytes of these messages, one behind the other, without those that pass the limits
abbrev pub AreSent : List Envelope → List ℕ → Type 0
AreSent [] bytes = bytes ≡ []
AreSent (e ∷ es) bytes = (front : List ℕ) × (more : List ℕ) × IsSent e [] front × AreSent es more
    × (bytes ≡ front ++ more)

-- each of the messages meets the rules of messages
abbrev pub AllMeet : List Envelope → Type 0
AllMeet [] = Unit {0}
AllMeet (e ∷ es) = MeetsRules e × AllMeet es
