-- What the answer of reading a signature says, in the terms of its definition.
use Rattle.std.proofs.Common.{◌≡◌, ℕ, List, sym, ap, ◌∙◌, Result, Ok, Err}
use Rattle.std.specs.Result.{IfOk}
use Rattle.atspi_types.specs.Kinds.{Kind, Kinds, kinds_of, types_in}
use Rattle.atspi_types.specs.Signatures.{signature_bytes, IsSignature}
use Rattle.atspi_types.specs.SignatureReading.{Gives, signature_in}
use Rattle.atspi_types.specs.SignatureView.{signature_types, signature_kinds, TellsFirst}
use Rattle.atspi_types.specs.declared.signature.Signature.{Signature}
use Rattle.atspi_types.specs.declared.fault.Fault.{Fault}
use Rattle.atspi_types.specs.declared.fault.ReadFault.{ReadFault}
use Rattle.atspi_types.specs.declared.fault.ReadFault.TheVariants as faults
use Rattle.atspi_types.proofs.DataLemmas.{kinds_of-types_in}
use Rattle.atspi_types.proofs.SignatureLaws.{signature_in-read, signature_in-again, signature_in-told}

pub found : (bytes : List ℕ) (r : Result Signature ReadFault) → Gives signature_types r (signature_in bytes) → IfOk r (λ s. bytes ≡ signature_bytes (signature_kinds s))
found bytes (Ok s) g = (signature_in-read bytes (signature_types s) g).spelled
found bytes (Err e) g = tt

pub within : (bytes : List ℕ) (r : Result Signature ReadFault) → Gives signature_types r (signature_in bytes) → IfOk r (λ s. IsSignature (signature_kinds s))
within bytes (Ok s) g = (signature_in-read bytes (signature_types s) g).is
within bytes (Err e) g = tt

abbrev read : List Kind → Result (List Kind) Fault
read ks = Ok ks

ok_is : (a b : List Kind) → read a ≡ read b → a ≡ b
ok_is a b e = cc

pub only : (bytes : List ℕ) (r : Result Signature ReadFault) → Gives signature_types r (signature_in bytes) → (ks : Kinds) → IsSignature ks → bytes ≡ signature_bytes ks → Gives signature_kinds r (Ok ks)
only bytes (Ok s) g ks h e = ap Ok (sym (kinds_of-types_in ks) ∙ ap kinds_of (ok_is (types_in ks) (signature_types s) (sym (signature_in-again ks h) ∙ ap signature_in (sym e) ∙ g)))
only bytes (Err (faults.Bad f)) g ks h e = let clash = sym (signature_in-again ks h) ∙ ap signature_in (sym e) ∙ g in absurd cc
only bytes (Err faults.NoMemory) g ks h e = tt

pub first : (bytes : List ℕ) (r : Result Signature ReadFault) → Gives signature_types r (signature_in bytes) → TellsFirst r bytes
first bytes (Ok s) g = tt
first bytes (Err (faults.Bad f)) g = signature_in-told bytes f g
first bytes (Err faults.NoMemory) g = tt
