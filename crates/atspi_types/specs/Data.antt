-- What values are, apart from where they lie in memory (D-Bus Specification, "Type System").
use Rattle.std.specs.Prelude.{◌≡◌, ℕ, Bool, List, [], ◌∷◌}
use Rattle.atspi_types.specs.Kinds.{Num, Kind, Kinds, number, boolean, text, path, signature, array, structure, variant}
use Rattle.atspi_types.specs.Kinds.{dictionary, no_kinds, kind, IsBasic, IsLawful}

mutual
  -- a value. A number is seen as that of its bits, a signed one in two's complement; a text as its characters and a
  -- path as its bytes; an array has the type of its elements beside them, and a dictionary those of its keys and values
  pub data Data : Type 0 where
    number_data : Num → ℕ → Data
    boolean_data : Bool → Data
    text_data : List ℕ → Data
    path_data : List ℕ → Data
    signature_data : Kinds → Data
    array_data : Kind → Items → Data
    structure_data : Items → Data
    dictionary_data : Kind → Kind → Entries → Data
    variant_data : Kind → Data → Data

  pub data Items : Type 0 where
    no_items : Items
    item : Data → Items → Items

  pub data Entries : Type 0 where
    no_entries : Entries
    entry : Data → Data → Entries → Entries

-- between the values in a value and a list of values
abbrev pub items_of : List Data → Items
items_of [] = no_items
items_of (d ∷ ds) = item d (items_of ds)

abbrev pub values_in : Items → List Data
values_in no_items = []
values_in (item d ds) = d ∷ values_in ds

abbrev pub entries_of : List (Data × Data) → Entries
entries_of [] = no_entries
entries_of (e ∷ es) = entry e.0 e.1 (entries_of es)

abbrev pub pairs_in : Entries → List (Data × Data)
pairs_in no_entries = []
pairs_in (entry k v es) = (k, v) ∷ pairs_in es

-- the type of a value
abbrev mutual
  pub type_of : Data → Kind
  type_of (number_data n x) = number n
  type_of (boolean_data b) = boolean
  type_of (text_data cs) = text
  type_of (path_data bs) = path
  type_of (signature_data ks) = signature
  type_of (array_data k ds) = array k
  type_of (structure_data ds) = structure (types_of ds)
  type_of (dictionary_data k v es) = dictionary k v
  type_of (variant_data k d) = variant

  pub types_of : Items → Kinds
  types_of no_items = no_kinds
  types_of (item d ds) = kind (type_of d) (types_of ds)

-- a value is well typed where its types are lawful and each element has the named type
abbrev mutual
  pub IsWellTyped : Data → Type 0
  IsWellTyped (number_data n x) = Unit {0}
  IsWellTyped (boolean_data b) = Unit {0}
  IsWellTyped (text_data cs) = Unit {0}
  IsWellTyped (path_data bs) = Unit {0}
  IsWellTyped (signature_data ks) = Unit {0}
  IsWellTyped (array_data k ds) = IsLawful k × AllHaveType k ds
  IsWellTyped (structure_data no_items) = ⊥
  IsWellTyped (structure_data (item d ds)) = IsWellTyped d × AreWellTyped ds
  IsWellTyped (dictionary_data k v es) = IsBasic k × IsLawful v × AllHaveTypes k v es
  IsWellTyped (variant_data k d) = IsLawful k × (type_of d ≡ k) × IsWellTyped d

  pub AreWellTyped : Items → Type 0
  AreWellTyped no_items = Unit {0}
  AreWellTyped (item d ds) = IsWellTyped d × AreWellTyped ds

  pub AllHaveType : Kind → Items → Type 0
  AllHaveType k no_items = Unit {0}
  AllHaveType k (item d ds) = (type_of d ≡ k) × IsWellTyped d × AllHaveType k ds

  pub AllHaveTypes : Kind → Kind → Entries → Type 0
  AllHaveTypes k v no_entries = Unit {0}
  AllHaveTypes k v (entry c d es) = (type_of c ≡ k) × (type_of d ≡ v) × IsWellTyped c × IsWellTyped d
      × AllHaveTypes k v es
