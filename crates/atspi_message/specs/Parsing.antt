-- What parsing bytes as a message gives.
use Rattle.std.specs.Prelude.{◌≡◌, ℕ, List, Result, Ok, Err}
use Rattle.atspi_types.specs.Data.{Data}
use Rattle.atspi_types.specs.declared.fault.Fault.{Fault}
use Rattle.atspi_types.specs.declared.fault.ReadFault.{ReadFault}
use Rattle.atspi_types.specs.declared.fault.ReadFault.TheVariants as faults
use Rattle.atspi_message.specs.Envelope.{Envelope, envelope_of}
use Rattle.atspi_message.specs.Faults.{FirstFault}
use Rattle.atspi_message.specs.inner.Reading.{Found, message_at, Describes}
use Rattle.atspi_message.specs.declared.message.Message.{Message}

-- a fault that is told is the first one of the bytes
abbrev pub TellsFirst : Result Message ReadFault → List ℕ → Type 0
TellsFirst (Ok m) bytes = Unit {0}
TellsFirst (Err (faults.Bad f)) bytes = FirstFault bytes f.place f.reason
TellsFirst (Err faults.NoMemory) bytes = Unit {0}

-- the answer is this message, or want of memory
abbrev pub IsMessageOrNoMemory : Result Message ReadFault → Envelope → Type 0
IsMessageOrNoMemory (Ok m) e = envelope_of m ≡ e
IsMessageOrNoMemory (Err (faults.Bad f)) e = ⊥
IsMessageOrNoMemory (Err faults.NoMemory) e = Unit {0}

-- the answer is this fault, or want of memory
abbrev pub IsFaultOrNoMemory : Result Message ReadFault → ℕ → ℕ → Type 0
IsFaultOrNoMemory (Ok m) place reason = ⊥
IsFaultOrNoMemory (Err (faults.Bad f)) place reason = (f.place ≡ place) × (f.reason ≡ reason)
IsFaultOrNoMemory (Err faults.NoMemory) place reason = Unit {0}

-- the fields and the values of a message that was read
pub record IsRead (m : Message) (bytes : List ℕ) : Type 0 where
  pub found : Found
  pub values : List Data
  pub read_ : message_at bytes ≡ Ok (found, values)
  pub describes : Describes (envelope_of m) bytes found values

abbrev pub Reads : Result Message ReadFault → List ℕ → Type 0
Reads (Ok m) bytes = IsRead m bytes
Reads (Err (faults.Bad f)) bytes = message_at bytes ≡ Err f
Reads (Err faults.NoMemory) bytes = Unit {0}
