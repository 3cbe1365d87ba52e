-- How contracts see a borrowed value, and a list of values as it lies in memory.
use Rattle.std.specs.Prelude.{List, map}
use Rattle.std.specs.Int.{w16, w32, w64, cast_unsigned}
use Rattle.atspi_types.specs.Kinds.{byte, i16, u16, i32, u32, i64, u64, double}
use Rattle.atspi_types.specs.KindView.{kind_of}
use Rattle.atspi_types.specs.SignatureView.{signature_kinds}
use Rattle.atspi_types.specs.Data.{Data, number_data, boolean_data, text_data, path_data, signature_data, array_data}
use Rattle.atspi_types.specs.Data.{structure_data, dictionary_data, variant_data, items_of, entries_of}
use Rattle.atspi_types.specs.DataView.{data_of, all_data, all_pairs}
use Rattle.atspi_types.specs.declared.borrowed.ValueRef.{ValueRef}
use Rattle.atspi_types.specs.declared.borrowed.ValueRef.TheVariants as refs
use Rattle.atspi_types.specs.declared.borrowed.Run.{Run}
use Rattle.atspi_types.specs.declared.borrowed.Run.TheVariants as runs

-- the value
abbrev pub ref_data : ValueRef → Data
ref_data (refs.Byte n) = number_data byte n
ref_data (refs.Bool b) = boolean_data b
ref_data (refs.I16 z) = number_data i16 (cast_unsigned w16 z)
ref_data (refs.U16 n) = number_data u16 n
ref_data (refs.I32 z) = number_data i32 (cast_unsigned w32 z)
ref_data (refs.U32 n) = number_data u32 n
ref_data (refs.I64 z) = number_data i64 (cast_unsigned w64 z)
ref_data (refs.U64 n) = number_data u64 n
ref_data (refs.Double n) = number_data double n
ref_data (refs.Text t) = text_data t.now
ref_data (refs.Path p) = path_data p.now
ref_data (refs.Sig s) = signature_data (signature_kinds s.now)
ref_data (refs.Array t vs) = array_data (kind_of t.now) (items_of (all_data vs.now))
ref_data (refs.Struct vs) = structure_data (items_of (all_data vs.now))
ref_data (refs.Dict k v ps) = dictionary_data (kind_of k.now) (kind_of v.now) (entries_of (all_pairs ps.now))
ref_data (refs.Variant t v) = variant_data (kind_of t.now) (data_of v.now)

-- the values of a run
abbrev pub run_data : Run → List Data
run_data (runs.Bytes ns) = map (number_data byte) ns.now
run_data (runs.Bools bs) = map boolean_data bs.now
run_data (runs.I16s zs) = map (λ z. number_data i16 (cast_unsigned w16 z)) zs.now
run_data (runs.U16s ns) = map (number_data u16) ns.now
run_data (runs.I32s zs) = map (λ z. number_data i32 (cast_unsigned w32 z)) zs.now
run_data (runs.U32s ns) = map (number_data u32) ns.now
run_data (runs.I64s zs) = map (λ z. number_data i64 (cast_unsigned w64 z)) zs.now
run_data (runs.U64s ns) = map (number_data u64) ns.now
run_data (runs.Doubles ns) = map (number_data double) ns.now
run_data (runs.Values vs) = map data_of vs.now
