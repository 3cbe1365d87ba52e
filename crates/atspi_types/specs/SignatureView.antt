-- How contracts see a signature, and the answer of reading one.
use Rattle.std.specs.Prelude.{List, ℕ, Result, Ok, Err}
use Rattle.atspi_types.specs.Kinds.{Kind, Kinds, kinds_of}
use Rattle.atspi_types.specs.KindView.{kinds_in}
use Rattle.atspi_types.specs.SignatureFaults.{IsFirstSignatureFault}
use Rattle.atspi_types.specs.declared.signature.Signature.{Signature}
use Rattle.atspi_types.specs.declared.fault.ReadFault.{ReadFault}
use Rattle.atspi_types.specs.declared.fault.ReadFault.TheVariants as faults

-- the types of a signature, as a list and as they stand in a value
abbrev pub signature_types : Signature → List Kind
signature_types s = kinds_in s.types

abbrev pub signature_kinds : Signature → Kinds
signature_kinds s = kinds_of (signature_types s)

-- a fault that is told is the first of all that is wrong
abbrev pub TellsFirst : Result Signature ReadFault → List ℕ → Type 0
TellsFirst (Ok s) bytes = Unit {0}
TellsFirst (Err (faults.Bad f)) bytes = IsFirstSignatureFault bytes f.place f.reason
TellsFirst (Err faults.NoMemory) bytes = Unit {0}
