-- What has a spelling is well typed.
use Rattle.std.proofs.Common.{◌≡◌, ℕ, zero, suc, ◌+◌, length, refl, sym, ap, subst, ◌∙◌}
use Rattle.atspi_types.specs.Kinds.{Num, Kind, Kinds, number, boolean, text, path, signature, array, structure, variant, dictionary, no_kinds, kind, IsBasic, IsLawful, AreLawful}
use Rattle.atspi_types.specs.Data.{Data, Items, Entries, number_data, boolean_data, text_data, path_data, signature_data, array_data, structure_data, dictionary_data, variant_data, item, no_items, entry, no_entries, type_of, types_of, IsWellTyped, AreWellTyped, AllHaveType, AllHaveTypes}
use Rattle.atspi_types.specs.declared.fault.Order.{Order}
use Rattle.atspi_marshal.specs.Input.{aligned}
use Rattle.atspi_marshal.specs.Spelling.{spelling, Fits, AllFit, FieldsFit, EntriesFit}

basic_lawful : (k : Kind) → IsBasic k → IsLawful k
basic_lawful (number n) h = tt
basic_lawful boolean h = tt
basic_lawful text h = tt
basic_lawful path h = tt
basic_lawful signature h = tt
basic_lawful (array k) h = absurd h
basic_lawful (structure ks) h = absurd h
basic_lawful variant h = absurd h
basic_lawful (dictionary k v) h = absurd h

pair_is : (j w k v : Kind) → j ≡ k → w ≡ v → dictionary j w ≡ dictionary k v
pair_is j w k v p q = rw (p, q) refl

kind_are : (j k : Kind) (js ks : Kinds) → j ≡ k → js ≡ ks → kind j js ≡ kind k ks
kind_are j k js ks p q = rw (p, q) refl

kinds_are : (j k : Kind) (js ks : Kinds) → j ≡ k → js ≡ ks → structure (kind j js) ≡ structure (kind k ks)
kinds_are j k js ks p q = rw (p, q) refl

mutual
  pub typed : (d : Data) (o : Order) (levels at : ℕ) (k : Kind) → IsLawful k → Fits o levels at d k → (type_of d ≡ k) × IsWellTyped d
  typed (number_data m x) o zero at (number n) lawful h = (ap number h.0, tt)
  typed (number_data m x) o (suc levels) at (number n) lawful h = (ap number h.0, tt)
  typed (number_data m x) o zero at boolean lawful h = absurd h
  typed (number_data m x) o (suc levels) at boolean lawful h = absurd h
  typed (number_data m x) o zero at text lawful h = absurd h
  typed (number_data m x) o (suc levels) at text lawful h = absurd h
  typed (number_data m x) o zero at path lawful h = absurd h
  typed (number_data m x) o (suc levels) at path lawful h = absurd h
  typed (number_data m x) o zero at signature lawful h = absurd h
  typed (number_data m x) o (suc levels) at signature lawful h = absurd h
  typed (number_data m x) o zero at (array k) lawful h = absurd h
  typed (number_data m x) o (suc levels) at (array k) lawful h = absurd h
  typed (number_data m x) o zero at (structure ks) lawful h = absurd h
  typed (number_data m x) o (suc levels) at (structure ks) lawful h = absurd h
  typed (number_data m x) o zero at variant lawful h = absurd h
  typed (number_data m x) o (suc levels) at variant lawful h = absurd h
  typed (number_data m x) o zero at (dictionary k v) lawful h = absurd h
  typed (number_data m x) o (suc levels) at (dictionary k v) lawful h = absurd h
  typed (boolean_data x) o zero at (number n) lawful h = absurd h
  typed (boolean_data x) o (suc levels) at (number n) lawful h = absurd h
  typed (boolean_data x) o zero at boolean lawful h = (refl, tt)
  typed (boolean_data x) o (suc levels) at boolean lawful h = (refl, tt)
  typed (boolean_data x) o zero at text lawful h = absurd h
  typed (boolean_data x) o (suc levels) at text lawful h = absurd h
  typed (boolean_data x) o zero at path lawful h = absurd h
  typed (boolean_data x) o (suc levels) at path lawful h = absurd h
  typed (boolean_data x) o zero at signature lawful h = absurd h
  typed (boolean_data x) o (suc levels) at signature lawful h = absurd h
  typed (boolean_data x) o zero at (array k) lawful h = absurd h
  typed (boolean_data x) o (suc levels) at (array k) lawful h = absurd h
  typed (boolean_data x) o zero at (structure ks) lawful h = absurd h
  typed (boolean_data x) o (suc levels) at (structure ks) lawful h = absurd h
  typed (boolean_data x) o zero at variant lawful h = absurd h
  typed (boolean_data x) o (suc levels) at variant lawful h = absurd h
  typed (boolean_data x) o zero at (dictionary k v) lawful h = absurd h
  typed (boolean_data x) o (suc levels) at (dictionary k v) lawful h = absurd h
  typed (text_data x) o zero at (number n) lawful h = absurd h
  typed (text_data x) o (suc levels) at (number n) lawful h = absurd h
  typed (text_data x) o zero at boolean lawful h = absurd h
  typed (text_data x) o (suc levels) at boolean lawful h = absurd h
  typed (text_data x) o zero at text lawful h = (refl, tt)
  typed (text_data x) o (suc levels) at text lawful h = (refl, tt)
  typed (text_data x) o zero at path lawful h = absurd h
  typed (text_data x) o (suc levels) at path lawful h = absurd h
  typed (text_data x) o zero at signature lawful h = absurd h
  typed (text_data x) o (suc levels) at signature lawful h = absurd h
  typed (text_data x) o zero at (array k) lawful h = absurd h
  typed (text_data x) o (suc levels) at (array k) lawful h = absurd h
  typed (text_data x) o zero at (structure ks) lawful h = absurd h
  typed (text_data x) o (suc levels) at (structure ks) lawful h = absurd h
  typed (text_data x) o zero at variant lawful h = absurd h
  typed (text_data x) o (suc levels) at variant lawful h = absurd h
  typed (text_data x) o zero at (dictionary k v) lawful h = absurd h
  typed (text_data x) o (suc levels) at (dictionary k v) lawful h = absurd h
  typed (path_data x) o zero at (number n) lawful h = absurd h
  typed (path_data x) o (suc levels) at (number n) lawful h = absurd h
  typed (path_data x) o zero at boolean lawful h = absurd h
  typed (path_data x) o (suc levels) at boolean lawful h = absurd h
  typed (path_data x) o zero at text lawful h = absurd h
  typed (path_data x) o (suc levels) at text lawful h = absurd h
  typed (path_data x) o zero at path lawful h = (refl, tt)
  typed (path_data x) o (suc levels) at path lawful h = (refl, tt)
  typed (path_data x) o zero at signature lawful h = absurd h
  typed (path_data x) o (suc levels) at signature lawful h = absurd h
  typed (path_data x) o zero at (array k) lawful h = absurd h
  typed (path_data x) o (suc levels) at (array k) lawful h = absurd h
  typed (path_data x) o zero at (structure ks) lawful h = absurd h
  typed (path_data x) o (suc levels) at (structure ks) lawful h = absurd h
  typed (path_data x) o zero at variant lawful h = absurd h
  typed (path_data x) o (suc levels) at variant lawful h = absurd h
  typed (path_data x) o zero at (dictionary k v) lawful h = absurd h
  typed (path_data x) o (suc levels) at (dictionary k v) lawful h = absurd h
  typed (signature_data x) o zero at (number n) lawful h = absurd h
  typed (signature_data x) o (suc levels) at (number n) lawful h = absurd h
  typed (signature_data x) o zero at boolean lawful h = absurd h
  typed (signature_data x) o (suc levels) at boolean lawful h = absurd h
  typed (signature_data x) o zero at text lawful h = absurd h
  typed (signature_data x) o (suc levels) at text lawful h = absurd h
  typed (signature_data x) o zero at path lawful h = absurd h
  typed (signature_data x) o (suc levels) at path lawful h = absurd h
  typed (signature_data x) o zero at signature lawful h = (refl, tt)
  typed (signature_data x) o (suc levels) at signature lawful h = (refl, tt)
  typed (signature_data x) o zero at (array k) lawful h = absurd h
  typed (signature_data x) o (suc levels) at (array k) lawful h = absurd h
  typed (signature_data x) o zero at (structure ks) lawful h = absurd h
  typed (signature_data x) o (suc levels) at (structure ks) lawful h = absurd h
  typed (signature_data x) o zero at variant lawful h = absurd h
  typed (signature_data x) o (suc levels) at variant lawful h = absurd h
  typed (signature_data x) o zero at (dictionary k v) lawful h = absurd h
  typed (signature_data x) o (suc levels) at (dictionary k v) lawful h = absurd h
  typed (array_data j ds) o zero at (number n) lawful h = absurd h
  typed (array_data j ds) o (suc levels) at (number n) lawful h = absurd h
  typed (array_data j ds) o zero at boolean lawful h = absurd h
  typed (array_data j ds) o (suc levels) at boolean lawful h = absurd h
  typed (array_data j ds) o zero at text lawful h = absurd h
  typed (array_data j ds) o (suc levels) at text lawful h = absurd h
  typed (array_data j ds) o zero at path lawful h = absurd h
  typed (array_data j ds) o (suc levels) at path lawful h = absurd h
  typed (array_data j ds) o zero at signature lawful h = absurd h
  typed (array_data j ds) o (suc levels) at signature lawful h = absurd h
  typed (array_data j ds) o zero at (array k) lawful h = absurd h
  typed (array_data j ds) o (suc levels) at (array k) lawful h = (ap array h.0, subst (λ (t : Kind). IsLawful t × AllHaveType t ds) (sym h.0) (lawful, all_typed ds o levels _ k lawful h.2))
  typed (array_data j ds) o zero at (structure ks) lawful h = absurd h
  typed (array_data j ds) o (suc levels) at (structure ks) lawful h = absurd h
  typed (array_data j ds) o zero at variant lawful h = absurd h
  typed (array_data j ds) o (suc levels) at variant lawful h = absurd h
  typed (array_data j ds) o zero at (dictionary k v) lawful h = absurd h
  typed (array_data j ds) o (suc levels) at (dictionary k v) lawful h = absurd h
  typed (structure_data ds) o zero at (number n) lawful h = absurd h
  typed (structure_data ds) o (suc levels) at (number n) lawful h = absurd h
  typed (structure_data ds) o zero at boolean lawful h = absurd h
  typed (structure_data ds) o (suc levels) at boolean lawful h = absurd h
  typed (structure_data ds) o zero at text lawful h = absurd h
  typed (structure_data ds) o (suc levels) at text lawful h = absurd h
  typed (structure_data ds) o zero at path lawful h = absurd h
  typed (structure_data ds) o (suc levels) at path lawful h = absurd h
  typed (structure_data ds) o zero at signature lawful h = absurd h
  typed (structure_data ds) o (suc levels) at signature lawful h = absurd h
  typed (structure_data ds) o zero at (array k) lawful h = absurd h
  typed (structure_data ds) o (suc levels) at (array k) lawful h = absurd h
  typed (structure_data ds) o zero at (structure ks) lawful h = absurd h
  typed (structure_data ds) o (suc levels) at (structure ks) lawful h = struct_typed ds o levels (aligned 8 at) ks lawful h
  typed (structure_data ds) o zero at variant lawful h = absurd h
  typed (structure_data ds) o (suc levels) at variant lawful h = absurd h
  typed (structure_data ds) o zero at (dictionary k v) lawful h = absurd h
  typed (structure_data ds) o (suc levels) at (dictionary k v) lawful h = absurd h
  typed (dictionary_data j w es) o zero at (number n) lawful h = absurd h
  typed (dictionary_data j w es) o (suc levels) at (number n) lawful h = absurd h
  typed (dictionary_data j w es) o zero at boolean lawful h = absurd h
  typed (dictionary_data j w es) o (suc levels) at boolean lawful h = absurd h
  typed (dictionary_data j w es) o zero at text lawful h = absurd h
  typed (dictionary_data j w es) o (suc levels) at text lawful h = absurd h
  typed (dictionary_data j w es) o zero at path lawful h = absurd h
  typed (dictionary_data j w es) o (suc levels) at path lawful h = absurd h
  typed (dictionary_data j w es) o zero at signature lawful h = absurd h
  typed (dictionary_data j w es) o (suc levels) at signature lawful h = absurd h
  typed (dictionary_data j w es) o zero at (array k) lawful h = absurd h
  typed (dictionary_data j w es) o (suc levels) at (array k) lawful h = absurd h
  typed (dictionary_data j w es) o zero at (structure ks) lawful h = absurd h
  typed (dictionary_data j w es) o (suc levels) at (structure ks) lawful h = absurd h
  typed (dictionary_data j w es) o zero at variant lawful h = absurd h
  typed (dictionary_data j w es) o (suc levels) at variant lawful h = absurd h
  typed (dictionary_data j w es) o zero at (dictionary k v) lawful h = absurd h
  typed (dictionary_data j w es) o (suc levels) at (dictionary k v) lawful h = (pair_is j w k v h.0 h.1, subst (λ (t : Kind). IsBasic t × IsLawful w × AllHaveTypes t w es) (sym h.0) (subst (λ (t : Kind). IsBasic k × IsLawful t × AllHaveTypes k t es) (sym h.1) (lawful.0, lawful.1, entries_typed es o levels _ k v (basic_lawful k lawful.0) lawful.1 h.3)))
  typed (variant_data j d) o zero at (number n) lawful h = absurd h
  typed (variant_data j d) o (suc levels) at (number n) lawful h = absurd h
  typed (variant_data j d) o zero at boolean lawful h = absurd h
  typed (variant_data j d) o (suc levels) at boolean lawful h = absurd h
  typed (variant_data j d) o zero at text lawful h = absurd h
  typed (variant_data j d) o (suc levels) at text lawful h = absurd h
  typed (variant_data j d) o zero at path lawful h = absurd h
  typed (variant_data j d) o (suc levels) at path lawful h = absurd h
  typed (variant_data j d) o zero at signature lawful h = absurd h
  typed (variant_data j d) o (suc levels) at signature lawful h = absurd h
  typed (variant_data j d) o zero at (array k) lawful h = absurd h
  typed (variant_data j d) o (suc levels) at (array k) lawful h = absurd h
  typed (variant_data j d) o zero at (structure ks) lawful h = absurd h
  typed (variant_data j d) o (suc levels) at (structure ks) lawful h = absurd h
  typed (variant_data j d) o zero at variant lawful h = absurd h
  typed (variant_data j d) o (suc levels) at variant lawful h = (let t = typed d o levels _ j h.0.lawful.0 h.1 in (refl, (h.0.lawful.0, t.0, t.1)))
  typed (variant_data j d) o zero at (dictionary k v) lawful h = absurd h
  typed (variant_data j d) o (suc levels) at (dictionary k v) lawful h = absurd h

  struct_typed : (ds : Items) (o : Order) (levels at : ℕ) (ks : Kinds) → IsLawful (structure ks) → FieldsFit o levels at ds ks → (structure (types_of ds) ≡ structure ks) × IsWellTyped (structure_data ds)
  struct_typed no_items o levels at no_kinds lawful h = absurd lawful
  struct_typed no_items o levels at (kind k ks) lawful h = absurd h
  struct_typed (item d ds) o levels at no_kinds lawful h = absurd h
  struct_typed (item d ds) o levels at (kind k ks) lawful h =
      let t = typed d o levels at k lawful.0 h.0 in
      let r = fields_typed ds o levels _ ks lawful.1 h.1 in
      (kinds_are (type_of d) k (types_of ds) ks t.0 r.0, (t.1, r.1))

  pub fields_typed : (ds : Items) (o : Order) (levels at : ℕ) (ks : Kinds) → AreLawful ks → FieldsFit o levels at ds ks → (types_of ds ≡ ks) × AreWellTyped ds
  fields_typed no_items o levels at no_kinds lawful h = (refl, tt)
  fields_typed no_items o levels at (kind k ks) lawful h = absurd h
  fields_typed (item d ds) o levels at no_kinds lawful h = absurd h
  fields_typed (item d ds) o levels at (kind k ks) lawful h =
      let t = typed d o levels at k lawful.0 h.0 in
      let r = fields_typed ds o levels _ ks lawful.1 h.1 in
      (kind_are (type_of d) k (types_of ds) ks t.0 r.0, (t.1, r.1))

  all_typed : (ds : Items) (o : Order) (levels at : ℕ) (k : Kind) → IsLawful k → AllFit o levels at ds k → AllHaveType k ds
  all_typed no_items o levels at k lawful h = tt
  all_typed (item d ds) o levels at k lawful h =
      let t = typed d o levels at k lawful h.0 in
      (t.0, t.1, all_typed ds o levels _ k lawful h.1)

  entries_typed : (es : Entries) (o : Order) (levels at : ℕ) (k v : Kind) → IsLawful k → IsLawful v → EntriesFit o levels at es k v → AllHaveTypes k v es
  entries_typed no_entries o zero at k v lk lv h = tt
  entries_typed no_entries o (suc levels) at k v lk lv h = tt
  entries_typed (entry c d es) o zero at k v lk lv h = absurd h
  entries_typed (entry c d es) o (suc levels) at k v lk lv h =
      let a = typed c o levels _ k lk h.0 in
      let b = typed d o levels _ v lv h.1 in
      (a.0, b.0, a.1, b.1, entries_typed es o (suc levels) _ k v lk lv h.2)
