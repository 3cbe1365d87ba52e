-- Tests of types and values: whether two types are the same, and whether a value is well typed.
use Rattle.std.specs.Prelude.{Bool, true, false, ◌&&◌, ◌==◌}
use Rattle.atspi_types.specs.Kinds.{Kind, Kinds, number, boolean, text, path, signature, array, structure, variant}
use Rattle.atspi_types.specs.Kinds.{dictionary, no_kinds, kind, is_basic, is_lawful}
use Rattle.atspi_types.specs.Signatures.{number_code}
use Rattle.atspi_types.specs.Data.{Data, number_data, boolean_data, text_data, path_data, signature_data, array_data}
use Rattle.atspi_types.specs.Data.{structure_data, dictionary_data, variant_data, Items, no_items, item, Entries}
use Rattle.atspi_types.specs.Data.{no_entries, entry, type_of}

-- the same type
abbrev mutual
  pub same_kind : Kind → Kind → Bool
  same_kind (number n) (number m) = number_code n == number_code m
  same_kind boolean boolean = true
  same_kind text text = true
  same_kind path path = true
  same_kind signature signature = true
  same_kind (array k) (array l) = same_kind k l
  same_kind (structure ks) (structure ls) = same_kinds ks ls
  same_kind variant variant = true
  same_kind (dictionary k v) (dictionary l w) = same_kind k l && same_kind v w
  same_kind k l = false

  pub same_kinds : Kinds → Kinds → Bool
  same_kinds no_kinds no_kinds = true
  same_kinds (kind k ks) (kind l ls) = same_kind k l && same_kinds ks ls
  same_kinds ks ls = false

-- a value is well typed where its types are lawful and each element has the named type
abbrev mutual
  pub is_well_typed : Data → Bool
  is_well_typed (number_data n x) = true
  is_well_typed (boolean_data b) = true
  is_well_typed (text_data cs) = true
  is_well_typed (path_data bs) = true
  is_well_typed (signature_data ks) = true
  is_well_typed (array_data k ds) = is_lawful k && all_have_type k ds
  is_well_typed (structure_data no_items) = false
  is_well_typed (structure_data (item d ds)) = is_well_typed d && are_well_typed ds
  is_well_typed (dictionary_data k v es) = is_basic k && (is_lawful v && all_have_types k v es)
  is_well_typed (variant_data k d) = is_lawful k && (same_kind (type_of d) k && is_well_typed d)

  pub are_well_typed : Items → Bool
  are_well_typed no_items = true
  are_well_typed (item d ds) = is_well_typed d && are_well_typed ds

  pub all_have_type : Kind → Items → Bool
  all_have_type k no_items = true
  all_have_type k (item d ds) = same_kind (type_of d) k && (is_well_typed d && all_have_type k ds)

  pub all_have_types : Kind → Kind → Entries → Bool
  all_have_types k v no_entries = true
  all_have_types k v (entry c d es) = same_kind (type_of c) k
      && (same_kind (type_of d) v && (is_well_typed c && (is_well_typed d && all_have_types k v es)))
