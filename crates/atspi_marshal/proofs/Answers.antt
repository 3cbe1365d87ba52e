-- Steps of reading that code takes.
use Rattle.std.proofs.Common.{◌≡◌, ℕ, zero, suc, ◌+◌, ◌-◌, ◌%◌, ◌<◌, ◌≤◌, Bool, true, false, cond, List, [], ◌∷◌, length, map, Result, Ok, Err, Box, Global, refl, sym, ap, ◌∙◌, arith}
use Rattle.std.specs.Int.{w32}
use Rattle.atspi_types.specs.Kinds.{Kind, number, boolean, text, path, signature, array, structure, variant, dictionary, Kinds, no_kinds, kind, kinds_of, alignment}
use Rattle.atspi_types.specs.KindView.{kind_of}
use Rattle.atspi_types.specs.Data.{Data, dictionary_data, structure_data, Items, no_items, item, items_of, Entries, no_entries, entry, entries_of}
use Rattle.atspi_types.specs.declared.fault.Fault.{Fault}
use Rattle.atspi_types.specs.declared.fault.ReadFault.{ReadFault}
use Rattle.atspi_types.specs.declared.fault.ReadFault.TheVariants as faults
use Rattle.atspi_types.specs.declared.signature.Signature.{Signature}
use Rattle.atspi_types.specs.SignatureView.{TellsFirst}
use Rattle.atspi_marshal.proofs.SignatureFaults.{wrong_place}
use Rattle.atspi_marshal.specs.declared.input.Bound.{Bound}
use Rattle.atspi_marshal.specs.Input.{Input, number_in}
use Rattle.atspi_marshal.specs.Faults.{entry_kind, inside, short_in}
use Rattle.atspi_types.specs.SignatureReading.{signature_in}
use Rattle.atspi_marshal.specs.Reading.{◌>>=◌, FaultsBy, bad, Reader, padding_at, elements_at, as_array, array_body_at, entries_in, as_dictionary, dictionary_body_at, struct_of, structs_in, single_at, first_in, deep_at, structure_at, inner_at, variant_with, variant_body_at}

-- a struct without fields is too deep, and no more
pub empty_deep : (below : Reader) (i : Input) (ks : List Kind) (b : Bound) (at p : ℕ) → length ks < 1 → padding_at i 8 b at ≡ Ok p → structure_at true below i ks b at ≡ bad p 20
unfolding structure_at single_at
empty_deep below i [] b at p lt e = rw e refl
empty_deep below i (k ∷ ks) b at p lt e = absurd (omega arith)

-- a signature of no type or of several
pub not_one : (deep : Bool) (below : Reader) (i : Input) (b : Bound) (p : ℕ) (ks : List Kind) → (length ks ≡ 1 → ⊥) → signature_in (short_in i p) ≡ Ok ks → variant_body_at deep below i b p ≡ bad p 16
unfolding variant_body_at
not_one deep below i b p [] many e = rw e refl
not_one deep below i b p (k ∷ []) many e = absurd (many refl)
not_one deep below i b p (k ∷ j ∷ ks) many e = rw e refl

entries_in-structs : (ps : List (Data × Data)) → entries_in (items_of (structs_in ps)) ≡ entries_of ps
entries_in-structs [] = refl
entries_in-structs (p ∷ ps) = ap (λ (es : Entries). entry p.0 p.1 es) (entries_in-structs ps)

-- a dictionary whose pairs were read
pub dictionary_made : (below : Reader) (i : Input) (k v : Kind) (p n start : ℕ) (ps : List (Data × Data)) → n ≡ number_in i w32 p → padding_at i 8 (inside (entry_kind k v) p n) (p + 4) ≡ Ok start
    → elements_at (below (entry_kind k v) (inside (entry_kind k v) p n)) (inside (entry_kind k v) p n).end n start ≡ Ok (structs_in ps)
    → dictionary_body_at below i k v p ≡ Ok (dictionary_data k v (entries_of ps), (inside (entry_kind k v) p n).end)
unfolding array_body_at
dictionary_made below i k v p n start ps same padded read =
    rw (← same, padded, read) (ap (λ (es : Entries). made es) (entries_in-structs ps))
  where
    made : Entries → Result (Data × ℕ) Fault
    made es = Ok (dictionary_data k v es, (inside (entry_kind k v) p n).end)

abbrev pub made_at : Data → ℕ → Result (Data × ℕ) Fault
made_at d next = Ok (d, next)

abbrev pub named_at : List Kind → Result (List Kind) Fault
named_at ks = Ok ks

-- the place of a signature's fault
pub faults_by : (bytes : List ℕ) (r : Result Signature ReadFault) → TellsFirst r bytes → FaultsBy r (length bytes)
faults_by bytes (Ok s) told = tt
faults_by bytes (Err (faults.Bad f)) told = (wrong_place bytes f.place f.reason told.there).0
faults_by bytes (Err faults.NoMemory) told = tt
