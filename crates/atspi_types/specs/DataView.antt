-- How contracts see a value, and lists of values and of pairs.
use Rattle.std.specs.Prelude.{List}
use Rattle.std.specs.Int.{w16, w32, w64, cast_unsigned}
use Rattle.atspi_types.specs.Kinds.{byte, i16, u16, i32, u32, i64, u64, double}
use Rattle.atspi_types.specs.KindView.{kind_of}
use Rattle.atspi_types.specs.SignatureView.{signature_kinds}
use Rattle.atspi_types.specs.PlainsView.{plains_data}
use Rattle.atspi_types.specs.Data.{Data, number_data, boolean_data, text_data, path_data, signature_data, array_data}
use Rattle.atspi_types.specs.Data.{structure_data, dictionary_data, variant_data, items_of, entries_of}
use Rattle.atspi_types.specs.declared.value.Value.{Value, fold-Value}
use Rattle.atspi_types.specs.declared.value.Kept.TheOpen.{Value-F, Values-F, Kept-F, Pairs-F}
use Rattle.atspi_types.specs.declared.value.Values.{Values, fold-Values}
use Rattle.atspi_types.specs.declared.value.Kept.{Kept, fold-Kept}
use Rattle.atspi_types.specs.declared.value.Pairs.{Pairs, fold-Pairs}

-- one level of a value, of a list as it is kept, of a list of values and of a list of pairs
abbrev pub data_step : Value-F (List Data) Data (List (Data × Data)) (List Data) → Data
data_step (Value-F.Byte n) = number_data byte n
data_step (Value-F.Bool b) = boolean_data b
data_step (Value-F.I16 z) = number_data i16 (cast_unsigned w16 z)
data_step (Value-F.U16 n) = number_data u16 n
data_step (Value-F.I32 z) = number_data i32 (cast_unsigned w32 z)
data_step (Value-F.U32 n) = number_data u32 n
data_step (Value-F.I64 z) = number_data i64 (cast_unsigned w64 z)
data_step (Value-F.U64 n) = number_data u64 n
data_step (Value-F.Double n) = number_data double n
data_step (Value-F.Text t) = text_data t
data_step (Value-F.Path p) = path_data p
data_step (Value-F.Sig s) = signature_data (signature_kinds s)
data_step (Value-F.Array t ds) = array_data (kind_of t) (items_of ds)
data_step (Value-F.Struct ds) = structure_data (items_of ds)
data_step (Value-F.Dict k v es) = dictionary_data (kind_of k) (kind_of v) (entries_of es)
data_step (Value-F.Variant t v) = variant_data (kind_of t) v.value

abbrev pub kept_step : Kept-F (List Data) Data (List (Data × Data)) (List Data) → List Data
kept_step (Kept-F.Plain ps) = plains_data ps
kept_step (Kept-F.Values vs) = vs.items

abbrev pub all_step : Values-F (List Data) Data (List (Data × Data)) (List Data) → List Data
all_step vs = vs.kept

abbrev pub pairs_step : Pairs-F (List Data) Data (List (Data × Data)) (List Data) → List (Data × Data)
pairs_step ps = ps.items.items

-- the value
abbrev pub data_of : Value → Data
data_of = fold-Value (List Data) Data (List (Data × Data)) (List Data) kept_step data_step pairs_step all_step

-- the values as they are kept
abbrev pub kept_data : Kept → List Data
kept_data = fold-Kept (List Data) Data (List (Data × Data)) (List Data) kept_step data_step pairs_step all_step

-- the values of a list
abbrev pub all_data : Values → List Data
all_data = fold-Values (List Data) Data (List (Data × Data)) (List Data) kept_step data_step pairs_step all_step

-- the pairs of a list
abbrev pub all_pairs : Pairs → List (Data × Data)
all_pairs = fold-Pairs (List Data) Data (List (Data × Data)) (List Data) kept_step data_step pairs_step all_step

-- a key and its value
abbrev pub pair_of : (Value × Value) → Data × Data
pair_of p = (data_of p.0, data_of p.1)
