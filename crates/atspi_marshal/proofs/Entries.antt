-- The entries of a dictionary are structs of two.
use Rattle.std.proofs.Common.{◌≡◌, ℕ, zero, suc, ◌+◌, ◌-◌, ◌<◌, ◌≤◌, List, [], ◌∷◌, ◌++◌, length, refl, sym, ap, subst, ◌∙◌, append_assoc, arith}
use Rattle.std.proofs.lemmas.List.{append-nil, length-append}
use Rattle.atspi_types.specs.Kinds.{Kind, structure, kind, no_kinds}
use Rattle.atspi_types.specs.Data.{Data, number_data, boolean_data, text_data, path_data, signature_data, array_data, structure_data, variant_data, dictionary_data, Items, no_items, item, items_of, Entries, no_entries, entry, entries_of}
use Rattle.atspi_types.specs.declared.fault.Order.{Order}
use Rattle.atspi_marshal.specs.Input.{aligned}
use Rattle.atspi_marshal.specs.Spelling.{padding, spelling, spellings, entry_spellings, Fits, AllFit, FieldsFit, EntriesFit}
use Rattle.atspi_marshal.specs.Faults.{entry_kind}
use Rattle.atspi_marshal.specs.Reading.{first_of_entry, entries_in, struct_of, structs_in}
use Rattle.atspi_marshal.proofs.Places.{length-zeros}

abbrev pub structs_of : Entries → Items
structs_of no_entries = no_items
structs_of (entry c d es) = item (struct_of c d) (structs_of es)

pub entries-structs : (es : Entries) → entries_in (structs_of es) ≡ es
entries-structs no_entries = refl
entries-structs (entry c d es) = ap (λ (fs : Entries). entry c d fs) (entries-structs es)

abbrev IsStruct : Data → Type 0
IsStruct d = (es : Entries) → (ds : Items) → structs_of es ≡ ds → structs_of (first_of_entry d es) ≡ item d ds

fields_two : (o : Order) (levels at : ℕ) (ds : Items) (k v : Kind) → FieldsFit o levels at ds (kind k (kind v no_kinds)) → IsStruct (structure_data ds)
fields_two o levels at no_items k v fit = absurd fit
fields_two o levels at (item c no_items) k v fit = absurd fit.1
fields_two o levels at (item c (item d no_items)) k v fit = λ es ds e. ap (λ (rest : Items). item (struct_of c d) rest) e
fields_two o levels at (item c (item d (item f ds))) k v fit = absurd fit.1.1

entry_two : (o : Order) (levels at : ℕ) (d : Data) (k v : Kind) → Fits o levels at d (entry_kind k v) → IsStruct d
entry_two o zero at (structure_data ds) k v fit = absurd fit
entry_two o (suc levels) at (number_data n x) k v fit = absurd fit
entry_two o (suc levels) at (boolean_data b) k v fit = absurd fit
entry_two o (suc levels) at (text_data cs) k v fit = absurd fit
entry_two o (suc levels) at (path_data bs) k v fit = absurd fit
entry_two o (suc levels) at (signature_data ks) k v fit = absurd fit
entry_two o (suc levels) at (array_data j ds) k v fit = absurd fit
entry_two o (suc levels) at (structure_data ds) k v fit = fields_two o levels (aligned 8 at) ds k v fit
entry_two o (suc levels) at (variant_data j d) k v fit = absurd fit
entry_two o (suc levels) at (dictionary_data j w es) k v fit = absurd fit
entry_two o zero at (number_data n x) k v fit = absurd fit
entry_two o zero at (boolean_data b) k v fit = absurd fit
entry_two o zero at (text_data cs) k v fit = absurd fit
entry_two o zero at (path_data bs) k v fit = absurd fit
entry_two o zero at (signature_data ks) k v fit = absurd fit
entry_two o zero at (array_data j ds) k v fit = absurd fit
entry_two o zero at (variant_data j d) k v fit = absurd fit
entry_two o zero at (dictionary_data j w es) k v fit = absurd fit

pub structs-entries : (o : Order) (levels at : ℕ) (ds : Items) (k v : Kind) → AllFit o levels at ds (entry_kind k v) → structs_of (entries_in ds) ≡ ds
structs-entries o levels at no_items k v fit = refl
structs-entries o levels at (item d ds) k v fit =
    entry_two o levels at d k v fit.0 (entries_in ds) ds (structs-entries o levels (at + length (spelling o at d)) ds k v fit.1)

-- the spelling of an entry, and the place behind it
entry_place : (at pad key value : ℕ) → aligned 8 at ≡ at + pad → aligned 8 at + key + value ≡ at + (pad + (key + value))
entry_place at pad key value e = omega (arith, e)

pub entry_end : (o : Order) (at : ℕ) (c d : Data) → at + length (spelling o at (struct_of c d)) ≡ aligned 8 at + length (spelling o (aligned 8 at) c) + length (spelling o (aligned 8 at + length (spelling o (aligned 8 at) c)) d)
entry_end o at c d =
    let key = spelling o (aligned 8 at) c in
    let value = spelling o (aligned 8 at + length key) d in
    let pad = length-zeros (aligned 8 at - at) in
    omega (arith, pad, length-append (padding 8 at) (key ++ (value ++ [])), length-append key (value ++ []), length-append value [])

pub entry_spellings-structs : (o : Order) (at : ℕ) (es : Entries) → entry_spellings o at es ≡ spellings o at (structs_of es)
entry_spellings-structs o at no_entries = refl
entry_spellings-structs o at (entry c d es) =
    let key = spelling o (aligned 8 at) c in
    let value = spelling o (aligned 8 at + length key) d in
    let end = aligned 8 at + length key + length value in
    let rest : entry_spellings o end es ≡ spellings o (at + length (spelling o at (struct_of c d))) (structs_of es) =
    entry_spellings-structs o end es ∙ ap (λ (m : ℕ). spellings o m (structs_of es)) (sym (entry_end o at c d)) in
    ap (λ (bs : List ℕ). padding 8 at ++ (key ++ (value ++ bs))) rest
    ∙ regroup (padding 8 at) key value (spellings o (at + length (spelling o at (struct_of c d))) (structs_of es))
  where
    regroup : (p k v r : List ℕ) → p ++ (k ++ (v ++ r)) ≡ (p ++ (k ++ (v ++ []))) ++ r
    regroup p k v r = simp (append_assoc, append-nil)

pub entries_fit : (o : Order) (levels at : ℕ) (es : Entries) (k v : Kind) → EntriesFit o levels at es k v → AllFit o levels at (structs_of es) (entry_kind k v)
entries_fit o zero at no_entries k v fit = tt
entries_fit o (suc levels) at no_entries k v fit = tt
entries_fit o zero at (entry c d es) k v fit = absurd fit
entries_fit o (suc levels) at (entry c d es) k v fit =
    ((fit.0, (fit.1, tt)), subst (λ (m : ℕ). AllFit o (suc levels) m (structs_of es) (entry_kind k v)) (sym (entry_end o at c d)) (entries_fit o (suc levels) (aligned 8 at + length (spelling o (aligned 8 at) c) + length (spelling o (aligned 8 at + length (spelling o (aligned 8 at) c)) d)) es k v fit.2))

pub all_entries_fit : (o : Order) (levels at : ℕ) (es : Entries) (k v : Kind) → AllFit o levels at (structs_of es) (entry_kind k v) → EntriesFit o levels at es k v
all_entries_fit o zero at no_entries k v fit = tt
all_entries_fit o (suc levels) at no_entries k v fit = tt
all_entries_fit o zero at (entry c d es) k v fit = absurd fit.0
all_entries_fit o (suc levels) at (entry c d es) k v fit =
    (fit.0.0, fit.0.1.0, all_entries_fit o (suc levels) (aligned 8 at + length (spelling o (aligned 8 at) c) + length (spelling o (aligned 8 at + length (spelling o (aligned 8 at) c)) d)) es k v (subst (λ (m : ℕ). AllFit o (suc levels) m (structs_of es) (entry_kind k v)) (entry_end o at c d) fit.1))
