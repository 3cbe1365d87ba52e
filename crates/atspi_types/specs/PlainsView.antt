-- How contracts see a list of numbers of one type, or of booleans.
use Rattle.std.specs.Prelude.{List, map}
use Rattle.std.specs.Int.{w16, w32, w64, cast_unsigned}
use Rattle.atspi_types.specs.Kinds.{byte, i16, u16, i32, u32, i64, u64, double}
use Rattle.atspi_types.specs.Data.{Data, number_data, boolean_data}
use Rattle.atspi_types.specs.declared.value.plains.Plains.{Plains}
use Rattle.atspi_types.specs.declared.value.plains.Plains.TheVariants.{Bytes, Bools, I16s, U16s, I32s, U32s, I64s, U64s}
use Rattle.atspi_types.specs.declared.value.plains.Plains.TheVariants.{Doubles}

-- the values
abbrev pub plains_data : Plains → List Data
plains_data (Bytes ns) = map (number_data byte) ns.items
plains_data (Bools bs) = map boolean_data bs.items
plains_data (I16s zs) = map (λ z. number_data i16 (cast_unsigned w16 z)) zs.items
plains_data (U16s ns) = map (number_data u16) ns.items
plains_data (I32s zs) = map (λ z. number_data i32 (cast_unsigned w32 z)) zs.items
plains_data (U32s ns) = map (number_data u32) ns.items
plains_data (I64s zs) = map (λ z. number_data i64 (cast_unsigned w64 z)) zs.items
plains_data (U64s ns) = map (number_data u64) ns.items
plains_data (Doubles ns) = map (number_data double) ns.items
