-- What a value is spelled as at a place, and which values have a spelling (D-Bus Specification, "Marshaling").
use Rattle.std.specs.Prelude.{◌≡◌, ℕ, zero, suc, ◌+◌, ◌-◌, ◌<◌, ◌≤◌, ◌^◌, Bool, true, List, [], ◌∷◌, ◌++◌, length}
use Rattle.std.specs.Prelude.{encode_utf8_all, if◌then◌else◌}
use Rattle.std.specs.Int.{w32}
use Rattle.std.specs.Int.{byte_len}
use Rattle.std.specs.Str.{all_scalars}
use Rattle.atspi_base.specs.Text.{HasNoZero}
use Rattle.atspi_base.specs.valid_names.Names.{IsPath}
use Rattle.atspi_types.specs.Kinds.{Num, width, number_alignment, Kind, number, boolean, text, path, signature, array}
use Rattle.atspi_types.specs.Kinds.{structure, variant, dictionary, Kinds, no_kinds, kind, alignment}
use Rattle.atspi_types.specs.Signatures.{signature_bytes, IsSignature}
use Rattle.atspi_types.specs.Data.{Data, number_data, boolean_data, text_data, path_data, signature_data, array_data}
use Rattle.atspi_types.specs.Data.{structure_data, variant_data, dictionary_data, Items, no_items, item, Entries}
use Rattle.atspi_types.specs.Data.{no_entries, entry}
use Rattle.atspi_types.specs.declared.fault.Order.{Order}
use Rattle.atspi_marshal.specs.Input.{number_bytes, aligned}

-- zero bytes from a place to the next multiple of n
abbrev pub zeros : ℕ → List ℕ
zeros zero = []
zeros (suc n) = 0 ∷ zeros n

abbrev pub padding : ℕ → ℕ → List ℕ
padding n at = zeros (aligned n at - at)

-- bytes behind a count of them, and before a zero byte: the count of 32 bits, as texts and paths have it, and of 8, as
-- signatures have it
abbrev pub counted : Order → ℕ → List ℕ → List ℕ
counted o at bytes = padding 4 at ++ (number_bytes o w32 (length bytes) ++ (bytes ++ 0 ∷ []))

abbrev pub counted_short : List ℕ → List ℕ
counted_short bytes = length bytes ∷ (bytes ++ 0 ∷ [])

-- the place of the first element of an array, whose elements stand at multiples of n
abbrev pub start_of : ℕ → ℕ → ℕ
start_of n at = aligned n (aligned 4 at + 4)

-- an array: the count of its elements' bytes, padding up to the first one, and the elements
abbrev pub array_spelling : Order → ℕ → ℕ → List ℕ → List ℕ
array_spelling o at n elements = padding 4 at
    ++ (number_bytes o w32 (length elements) ++ (padding n (aligned 4 at + 4) ++ elements))

-- the signature of a variant has one type
abbrev pub single : Kind → Kinds
single k = kind k no_kinds

-- A value at a place: zero bytes up to a multiple of its alignment, and its bytes. Inner values stand at their own
-- places.
abbrev mutual
  pub spelling : Order → ℕ → Data → List ℕ
  spelling o at (number_data n x) = padding (number_alignment n) at ++ number_bytes o (width n) x
  spelling o at (boolean_data b) = padding 4 at ++ number_bytes o w32 (if b then 1 else 0)
  spelling o at (text_data cs) = counted o at (encode_utf8_all cs)
  spelling o at (path_data bytes) = counted o at bytes
  spelling o at (signature_data ks) = counted_short (signature_bytes ks)
  spelling o at (array_data k ds) = array_spelling o at (alignment k) (spellings o (start_of (alignment k) at) ds)
  spelling o at (structure_data ds) = padding 8 at ++ spellings o (aligned 8 at) ds
  spelling o at (dictionary_data k v es) = array_spelling o at 8 (entry_spellings o (start_of 8 at) es)
  spelling o at (variant_data k d) = counted_short (signature_bytes (single k))
      ++ spelling o (at + 2 + length (signature_bytes (single k))) d

  -- values one behind the other
  pub spellings : Order → ℕ → Items → List ℕ
  spellings o at no_items = []
  spellings o at (item d ds) = spelling o at d ++ spellings o (at + length (spelling o at d)) ds

  -- entries one behind the other, each of them a struct of a key and a value
  pub entry_spellings : Order → ℕ → Entries → List ℕ
  entry_spellings o at no_entries = []
  entry_spellings o at (entry c d es) =
      let key = spelling o (aligned 8 at) c in
      let value = spelling o (aligned 8 at + length key) d in
      padding 8 at ++ (key ++ (value ++ entry_spellings o (aligned 8 at + length key + length value) es))

-- the bytes of an array's elements are at most 64 MiB
abbrev pub IsShort : List ℕ → Type 0
IsShort elements = length elements ≤ 67108864

-- A value of a kind that has a spelling at a place: with at most so many levels of containers in one another, arrays of
-- at most 64 MiB, and types of variants that are signatures.
abbrev mutual
  pub Fits : Order → ℕ → ℕ → Data → Kind → Type 0
  Fits o levels at (number_data m x) (number n) = (m ≡ n) × (x < 256 ^ byte_len (width n))
  Fits o levels at (boolean_data b) boolean = Unit {0}
  Fits o levels at (text_data cs) text = (all_scalars cs ≡ true) × HasNoZero (encode_utf8_all cs)
      × (length (encode_utf8_all cs) < 2 ^ 32)
  Fits o levels at (path_data bytes) path = IsPath bytes × (length bytes < 2 ^ 32)
  Fits o levels at (signature_data ks) signature = IsSignature ks
  Fits o (suc levels) at (array_data j ds) (array k) = (j ≡ k) × IsShort (spellings o (start_of (alignment k) at) ds)
      × AllFit o levels (start_of (alignment k) at) ds k
  Fits o (suc levels) at (structure_data ds) (structure ks) = FieldsFit o levels (aligned 8 at) ds ks
  Fits o (suc levels) at (dictionary_data j w es) (dictionary k v) = (j ≡ k) × (w ≡ v)
      × IsShort (entry_spellings o (start_of 8 at) es) × EntriesFit o levels (start_of 8 at) es k v
  Fits o (suc levels) at (variant_data k d) variant = IsSignature (single k)
      × Fits o levels (at + 2 + length (signature_bytes (single k))) d k
  Fits o levels at d k = ⊥

  -- elements of a kind
  pub AllFit : Order → ℕ → ℕ → Items → Kind → Type 0
  AllFit o levels at no_items k = Unit {0}
  AllFit o levels at (item d ds) k = Fits o levels at d k × AllFit o levels (at + length (spelling o at d)) ds k

  -- fields of some kinds
  pub FieldsFit : Order → ℕ → ℕ → Items → Kinds → Type 0
  FieldsFit o levels at no_items no_kinds = Unit {0}
  FieldsFit o levels at (item d ds) (kind k ks) = Fits o levels at d k
      × FieldsFit o levels (at + length (spelling o at d)) ds ks
  FieldsFit o levels at no_items (kind k ks) = ⊥
  FieldsFit o levels at (item d ds) no_kinds = ⊥

  -- entries of two kinds, each of them a container
  pub EntriesFit : Order → ℕ → ℕ → Entries → Kind → Kind → Type 0
  EntriesFit o levels at no_entries k v = Unit {0}
  EntriesFit o zero at (entry c d es) k v = ⊥
  EntriesFit o (suc levels) at (entry c d es) k v =
      let value_at = aligned 8 at + length (spelling o (aligned 8 at) c) in
      Fits o levels (aligned 8 at) c k × Fits o levels value_at d v
      × EntriesFit o (suc levels) (value_at + length (spelling o value_at d)) es k v

-- these bytes spell the value at the place
pub record Spelled (o : Order) (levels at : ℕ) (k : Kind) (d : Data) (bytes : List ℕ) : Type 0 where
  pub fits : Fits o levels at d k
  pub bytes_are : bytes ≡ spelling o at d
