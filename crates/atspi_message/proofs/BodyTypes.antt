-- The field that holds the types of a body.
use Rattle.std.proofs.Common.{◌≡◌, ℕ, ◌+◌, ◌<◌, List, [], ◌∷◌, length, take, Result, Err, refl, arith}
use Rattle.atspi_types.specs.Kinds.{Kinds, signature, IsLawful, AreLawful}
use Rattle.atspi_types.specs.Data.{Data, number_data, boolean_data, text_data, path_data, signature_data, array_data, structure_data, dictionary_data, variant_data, Items, no_items, item, items_of, type_of, types_of, IsWellTyped, AreWellTyped}
use Rattle.atspi_types.specs.Signatures.{signature_bytes, FitsSignature, IsSignature}
use Rattle.atspi_types.specs.declared.fault.Order.{Order}
use Rattle.atspi_marshal.specs.declared.writing.fault.WriteFault.{WriteFault}
use Rattle.atspi_marshal.specs.Input.{aligned}
use Rattle.atspi_marshal.specs.Spelling.{counted_short, spelling, spellings, Fits}
use Rattle.atspi_marshal.specs.Writing.{IsWritten, Writes}
use Rattle.atspi_marshal.proofs.WritingSteps.{Writes-by}
use Rattle.atspi_marshal.proofs.WritingLists.{front_behind}
use Rattle.atspi_message.specs.Bytes.{field_items, signature_if}
use Rattle.atspi_message.specs.inner.Writing.{field_front, FieldsFitAt, PutsFields}
use Rattle.atspi_message.proofs.FieldWriting.{field_of, field_writes, front_refused, value_behind, signature_type}

-- well typed values have lawful types
mutual
  pub lawful_type : (d : Data) → IsWellTyped d → IsLawful (type_of d)
  lawful_type (number_data n x) t = tt
  lawful_type (boolean_data b) t = tt
  lawful_type (text_data cs) t = tt
  lawful_type (path_data bs) t = tt
  lawful_type (signature_data ks) t = tt
  lawful_type (array_data k ds) t = t.0
  lawful_type (structure_data no_items) t = absurd t
  lawful_type (structure_data (item d ds)) t = (lawful_type d t.0, lawful_types ds t.1)
  lawful_type (dictionary_data k v es) t = (t.0, t.1)
  lawful_type (variant_data k d) t = tt

  pub lawful_types : (ds : Items) → AreWellTyped ds → AreLawful (types_of ds)
  lawful_types no_items t = tt
  lawful_types (item d ds) t = (lawful_type d t.0, lawful_types ds t.1)

-- types within the limits may be written as a value
types_write : (o : Order) (m : ℕ) (ds : Items) (mid new : List ℕ) (r : Result ℕ WriteFault) → AreWellTyped ds → Writes (FitsSignature (types_of ds)) (counted_short (signature_bytes (types_of ds))) m mid new r
    → Writes (Fits o 61 m (signature_data (types_of ds)) signature) (spelling o m (signature_data (types_of ds))) m mid new r
types_write o m ds mid new r t w = Writes-by (FitsSignature (types_of ds)) (IsSignature (types_of ds)) (counted_short (signature_bytes (types_of ds))) m mid new r (λ fits. record { lawful = lawful_types ds t; fits = fits }) (λ is. is.fits) w

pub signature_writes : (o : Order) (at m : ℕ) (ds : Items) (old mid new : List ℕ) (r : Result ℕ WriteFault) → AreWellTyped ds → IsWritten (Unit {0}) (field_front at 8 103) at old mid m → Writes (FitsSignature (types_of ds)) (counted_short (signature_bytes (types_of ds))) m mid new r
    → Writes (FieldsFitAt o at (field_of 8 signature (signature_data (types_of ds)) ∷ [])) (spellings o at (field_items (field_of 8 signature (signature_data (types_of ds)) ∷ []))) at old new r
signature_writes o at m ds old mid new r t front w =
    let d = signature_data (types_of ds) in
    field_writes o at 8 103 signature d old new r (omega arith) refl signature_type
    (value_behind (λ q. Fits o 61 q d signature) (λ q. spelling o q d) at 8 103 m old mid new r front (types_write o m ds mid new r t w))

pub signature_refused : (o : Order) (at : ℕ) (ks : Kinds) (old new last : List ℕ) (e : WriteFault) → Writes (Unit {0}) (field_front at 8 103) at old new (Err e)
    → Writes (FieldsFitAt o at (field_of 8 signature (signature_data ks) ∷ [])) (spellings o at (field_items (field_of 8 signature (signature_data ks) ∷ []))) at old last (Err e)
signature_refused o at ks old new last e w =
    let d = signature_data ks in
    field_writes o at 8 103 signature d old last (Err e) (omega arith) refl signature_type (front_refused (Fits o 61 (aligned 8 at + 4) d signature) (spelling o (aligned 8 at + 4) d) at 8 103 old new last e w)

-- the types of a body that is not empty are a field
pub signature_puts : (o : Order) (at m : ℕ) (ds : List Data) (old mid new : List ℕ) (r : Result ℕ WriteFault) → 0 < length ds → AreWellTyped (items_of ds) → IsWritten (Unit {0}) (field_front at 8 103) at old mid m
    → take (length old) mid ≡ old → take (length mid) new ≡ mid → Writes (FitsSignature (types_of (items_of ds))) (counted_short (signature_bytes (types_of (items_of ds)))) m mid new r → PutsFields o at (signature_if ds) old new r
signature_puts o at m [] old mid new r some t front one two w = absurd (omega (arith, some))
signature_puts o at m (d ∷ ds) old mid new r some t front one two w = record { writes = signature_writes o at m (items_of (d ∷ ds)) old mid new r t front w; front = front_behind old mid new one two }

pub signature_puts_refused : (o : Order) (at : ℕ) (ds : List Data) (old new : List ℕ) (e : WriteFault) → 0 < length ds → take (length old) new ≡ old → Writes (Unit {0}) (field_front at 8 103) at old new (Err e) → PutsFields o at (signature_if ds) old new (Err e)
signature_puts_refused o at [] old new e some front w = absurd (omega (arith, some))
signature_puts_refused o at (d ∷ ds) old new e some front w = record { writes = signature_refused o at (types_of (items_of (d ∷ ds))) old new new e w; front = front }
