-- What each variant of a value is.
use Rattle.std.proofs.Common.{◌≡◌, refl, ap, [], ◌∷◌, ℕ, ℤ, Bool as Boolean, Box, Global, List, map, rules}
use Rattle.std.specs.Int.{w16, w32, w64, cast_unsigned}
use Rattle.atspi_types.specs.Kinds.{Kind, Kinds, no_kinds, kind, kinds_of, types_in, byte, i16, u16, i32, u32, i64, u64, double}
use Rattle.atspi_types.specs.KindView.{kind_of}
use Rattle.atspi_types.specs.SignatureView.{signature_kinds}
use Rattle.atspi_types.specs.Data.{Data, Items, Entries, no_items, item, no_entries, entry, values_in, pairs_in, number_data, boolean_data, text_data, path_data, signature_data, array_data, structure_data, dictionary_data, variant_data, items_of, entries_of}
use Rattle.atspi_types.specs.DataView.{data_of, all_data, all_pairs, pair_of}
use Rattle.atspi_types.specs.declared.ty.Ty.{Ty}
use Rattle.atspi_types.specs.declared.signature.Signature.{Signature}
use Rattle.atspi_types.specs.declared.value.Value.{Value, the_lemmas}
use Rattle.atspi_types.specs.declared.value.Value.TheVariants.{Byte, Bool, I16, U16, I32, U32, I64, U64, Double, Text, Path, Sig, Array, Struct, Variant, Dict}
use Rattle.atspi_types.specs.declared.value.Values.{Values}
use Rattle.atspi_types.specs.declared.value.Pairs.{Pairs, the_lemmas as pair_lemmas}

pub data_of-Byte : (n : ℕ) → data_of (Byte n) ≡ number_data byte n
data_of-Byte n = search (rules, the_lemmas)

pub data_of-U16 : (n : ℕ) → data_of (U16 n) ≡ number_data u16 n
data_of-U16 n = search (rules, the_lemmas)

pub data_of-U32 : (n : ℕ) → data_of (U32 n) ≡ number_data u32 n
data_of-U32 n = search (rules, the_lemmas)

pub data_of-U64 : (n : ℕ) → data_of (U64 n) ≡ number_data u64 n
data_of-U64 n = search (rules, the_lemmas)

pub data_of-Double : (n : ℕ) → data_of (Double n) ≡ number_data double n
data_of-Double n = search (rules, the_lemmas)

pub data_of-I16 : (z : ℤ) → data_of (I16 z) ≡ number_data i16 (cast_unsigned w16 z)
data_of-I16 z = search (rules, the_lemmas)

pub data_of-I32 : (z : ℤ) → data_of (I32 z) ≡ number_data i32 (cast_unsigned w32 z)
data_of-I32 z = search (rules, the_lemmas)

pub data_of-I64 : (z : ℤ) → data_of (I64 z) ≡ number_data i64 (cast_unsigned w64 z)
data_of-I64 z = search (rules, the_lemmas)

pub data_of-Bool : (b : Boolean) → data_of (Bool b) ≡ boolean_data b
data_of-Bool b = search (rules, the_lemmas)

pub data_of-Text : (chars : List ℕ) → data_of (Text chars) ≡ text_data chars
data_of-Text chars = search (rules, the_lemmas)

pub data_of-Path : (bytes : List ℕ) → data_of (Path bytes) ≡ path_data bytes
data_of-Path bytes = search (rules, the_lemmas)

pub data_of-Sig : (signature : Signature) → data_of (Sig signature) ≡ signature_data (signature_kinds signature)
data_of-Sig signature = search (rules, the_lemmas)

pub data_of-Array : (element : Ty) (values : Values) → data_of (Array element values) ≡ array_data (kind_of element) (items_of (all_data values))
data_of-Array element values = search (rules, the_lemmas)

pub data_of-Struct : (fields : Values) → data_of (Struct fields) ≡ structure_data (items_of (all_data fields))
data_of-Struct fields = search (rules, the_lemmas)

pub data_of-Dict : (key value : Ty) (pairs : Pairs) → data_of (Dict key value pairs) ≡ dictionary_data (kind_of key) (kind_of value) (entries_of (all_pairs pairs))
data_of-Dict key value pairs = search (rules, the_lemmas)

pub data_of-Variant : (ty : Ty) (value : Box Value Global) → data_of (Variant ty value) ≡ variant_data (kind_of ty) (data_of value.value)
data_of-Variant ty value = search (rules, the_lemmas)

-- a list of pairs
pub all_pairs-map : (pairs : Pairs) → all_pairs pairs ≡ map pair_of pairs.items.items
all_pairs-map pairs = search (rules, pair_lemmas)

-- between a list and the same inside a type or a value
pub types_in-kinds_of : (ks : List Kind) → types_in (kinds_of ks) ≡ ks
types_in-kinds_of [] = refl
types_in-kinds_of (k ∷ ks) = ap (λ rest. k ∷ rest) (types_in-kinds_of ks)

pub kinds_of-types_in : (ks : Kinds) → kinds_of (types_in ks) ≡ ks
kinds_of-types_in no_kinds = refl
kinds_of-types_in (kind k ks) = ap (kind k) (kinds_of-types_in ks)

pub values_in-items_of : (ds : List Data) → values_in (items_of ds) ≡ ds
values_in-items_of [] = refl
values_in-items_of (d ∷ ds) = ap (λ rest. d ∷ rest) (values_in-items_of ds)

pub items_of-values_in : (ds : Items) → items_of (values_in ds) ≡ ds
items_of-values_in no_items = refl
items_of-values_in (item d ds) = ap (item d) (items_of-values_in ds)

pub pairs_in-entries_of : (es : List (Data × Data)) → pairs_in (entries_of es) ≡ es
pairs_in-entries_of [] = refl
pairs_in-entries_of (e ∷ es) = ap (λ rest. e ∷ rest) (pairs_in-entries_of es)

pub entries_of-pairs_in : (es : Entries) → entries_of (pairs_in es) ≡ es
entries_of-pairs_in no_entries = refl
entries_of-pairs_in (entry k v es) = ap (entry k v) (entries_of-pairs_in es)
