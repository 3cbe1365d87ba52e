-- What reading bytes as a message gives.
use Rattle.std.specs.Prelude.{◌≡◌, ℕ, List, Result, Ok, Err}
use Rattle.atspi_types.specs.Data.{Data}
use Rattle.atspi_types.specs.declared.fault.Fault.{Fault}
use Rattle.atspi_message.specs.inner.Reading.{Found, message_at, Describes}
use Rattle.atspi_message_in_place.specs.View.{envelope_at}
use Rattle.atspi_message_in_place.specs.declared.message.MessageRef.{MessageRef}

-- the fields and the values of a message that was read
pub record IsRead (m : MessageRef) (bytes : List ℕ) : Type 0 where
  pub found : Found
  pub values : List Data
  pub read_ : message_at bytes ≡ Ok (found, values)
  pub describes : Describes (envelope_at m) bytes found values

abbrev pub IsReadOrTold : Result MessageRef Fault → List ℕ → Type 0
IsReadOrTold (Ok m) bytes = IsRead m bytes
IsReadOrTold (Err f) bytes = message_at bytes ≡ Err f
