-- What any bytes are read as (D-Bus Specification, "Marshaling (Wire Format)" and "Message Format").
use Rattle.std.specs.Prelude.{◌≡◌, ◌⊎◌, ◌<◌, ◌≤◌, ◌%◌, ℕ, List, length, take, slice_index}
use Rattle.atspi_types.specs.Kinds.{Kind, Kinds, IsLawful}
use Rattle.atspi_types.specs.Data.{Data, Items}
use Rattle.atspi_types.specs.declared.fault.Order.{Order}
use Rattle.atspi_marshal.specs.Input.{whole, to_end}
use Rattle.atspi_marshal.specs.Faults.{IsItem, Wrong, FaultAt}
use Rattle.atspi_marshal.specs.Spelling.{spellings, FieldsFit}
use Rattle.atspi_message.specs.Envelope.{Envelope}
use Rattle.atspi_message.specs.Rules.{MeetsRules, HasNames}
use Rattle.atspi_message.specs.Bytes.{FitsWire, IsMessage, rising_fields, written}
use Rattle.atspi_message.specs.Front.{IsSoundFront, length_in}

-- an item of the kind is spelled at the place, and ends there
abbrev pub IsValue : Order → List ℕ → Kind → ℕ → ℕ → Data → Type 0
IsValue o bytes k at next d = IsItem (whole o bytes) 64 k (to_end bytes) at next d

-- something is wrong with it
abbrev pub IsFaulty : Order → List ℕ → Kind → ℕ → ℕ → ℕ → Type 0
IsFaulty o bytes k at place reason = Wrong (whole o bytes) 64 k (to_end bytes) at place reason

-- one item is spelled there, and nothing is wrong with it
pub record HasOneValue (o : Order) (bytes : List ℕ) (k : Kind) (at : ℕ) : Type 0 where
  pub item : Data
  pub next : ℕ
  pub is : IsValue o bytes k at next item
  pub one : (d : Data) (n : ℕ) → IsValue o bytes k at n d → (d ≡ item) × (n ≡ next)
  pub faultless : (place reason : ℕ) → IsFaulty o bytes k at place reason → ⊥

-- one fault is the first there, and no item is spelled
pub record HasOneFault (o : Order) (bytes : List ℕ) (k : Kind) (at : ℕ) : Type 0 where
  pub place : ℕ
  pub reason : ℕ
  pub is : FaultAt (whole o bytes) 64 k (to_end bytes) at place reason
  pub one : (q s : ℕ) → FaultAt (whole o bytes) 64 k (to_end bytes) at q s → (q ≡ place) × (s ≡ reason)
  pub no_value : (d : Data) (n : ℕ) → IsValue o bytes k at n d → ⊥

abbrev pub ValuesHaveOneReading : Type 0
ValuesHaveOneReading = (o : Order) (bytes : List ℕ) (k : Kind) (at : ℕ) → ((i : ℕ) → slice_index bytes i < 256)
    → IsLawful k → at ≤ length bytes → HasOneValue o bytes k at ⊎ HasOneFault o bytes k at

-- what a reader of messages asks of bytes: that nothing is wrong with the first 16, and that they state the length of
-- all
pub record IsAskedFor (bytes : List ℕ) : Type 0 where
  pub sound : IsSoundFront (take 16 bytes)
  pub length : length_in (take 16 bytes) ≡ length bytes

abbrev pub MessagesAreAskedFor : Type 0
MessagesAreAskedFor = (e : Envelope) (bytes : List ℕ) → IsMessage e bytes → IsAskedFor bytes

-- bytes that a reader may be asked, and that are this message alone
pub record IsReadBack (e : Envelope) (bytes : List ℕ) : Type 0 where
  pub asked : IsAskedFor bytes
  pub message : IsMessage e bytes
  pub one : (d : Envelope) → IsMessage d bytes → d ≡ e

abbrev pub WhatIsWrittenIsRead : Type 0
WhatIsWrittenIsRead = (e : Envelope) → MeetsRules e → HasNames e → FitsWire e (rising_fields e)
    → IsReadBack e (written e)

-- two places are as far behind a multiple of 8
abbrev pub StandAlike : ℕ → ℕ → Type 0
StandAlike a b = a % 8 ≡ b % 8

-- At such places values have the same spelling, and the same are within the limits.
pub record AreSpelledAlike (o : Order) (a b : ℕ) (ds : Items) : Type 0 where
  pub same : spellings o a ds ≡ spellings o b ds
  pub fits : (levels : ℕ) (ks : Kinds) → FieldsFit o levels a ds ks → FieldsFit o levels b ds ks

abbrev pub PlacesCountByEights : Type 0
PlacesCountByEights = (o : Order) (a b : ℕ) (ds : Items) → StandAlike a b → AreSpelledAlike o a b ds
