-- Words that only the private contracts and proofs beside `Ask` use.
use Rattle.std.specs.Prelude.{◌≡◌, ℕ, true, false, List, codes, IsOkAnd, Result, Ok, Err}
use Rattle.atspi_protocol.specs.declared.ends.error.CallError.{CallError}
use Rattle.atspi_protocol.specs.ends.Messages.{error_word}
use Rattle.atspi_protocol.specs.declared.members.property.ObjectProperty.{ObjectProperty}
use Rattle.atspi_protocol.specs.declared.members.property.ObjectProperty.TheVariants as properties
use Rattle.atspi_protocol.specs.members.Table.{PropertyLine}
use Rattle.atspi_app_calls.specs.declared.interface.AppInterface.{AppInterface}
use Rattle.atspi_app_calls.specs.Interface.{properties_in}

-- the application's number can be set, to a signed number, and no other property
abbrev pub IsSettable : ObjectProperty → PropertyLine → Type 0
IsSettable properties.Id l = (l.is_settable ≡ true) × (l.type ≡ codes "i")
IsSettable property l = l.is_settable ≡ false

-- the line of a property
pub record IsLine (property : ObjectProperty) (l : PropertyLine) : Type 0 where
  pub is : l.property ≡ property
  pub set : IsSettable property l

-- a property that was looked for, or the error
abbrev pub IsFound : Result ObjectProperty CallError → Result PropertyLine (List ℕ) → Type 0
IsFound (Ok property) found = IsOkAnd found (IsLine property)
IsFound (Err error) found = found ≡ Err (error_word error)

-- all properties of an interface, or the error
abbrev pub AreAll : Result AppInterface CallError → Result (List PropertyLine) (List ℕ) → Type 0
AreAll (Ok interface) found = found ≡ Ok (properties_in interface)
AreAll (Err error) found = found ≡ Err (error_word error)
