use Rattle.std.proofs.Common.{refl}
use Rattle.std.specs.Int.{w16, w32, w64, cast_unsigned}
use Rattle.atspi_types.specs.Kinds.{number, boolean, byte, i16, u16, i32, u32, i64, u64, double}
use Rattle.atspi_types.specs.Data.{number_data, boolean_data}
use Rattle.atspi_types.proofs.TypedLemmas.{typed_as_map}
use Rattle.atspi_types.proofs.KindLemmas.{kind_of-Byte, kind_of-Bool, kind_of-I16, kind_of-U16, kind_of-I32, kind_of-U32, kind_of-I64, kind_of-U64, kind_of-Double}
use Rattle.atspi_types.proofs.borrowed.Run.plain_type.Goals as goal

pub returns-in-Bytes : goal.returns-in-Bytes
returns-in-Bytes c = rw (c.in-Bytes.is, kind_of-Byte) (typed_as_map (number byte) (number_data byte) (λ _. refl) (λ _. tt) c.in-Bytes.field-0.now)

pub returns-in-Bools : goal.returns-in-Bools
returns-in-Bools c = rw (c.in-Bools.is, kind_of-Bool) (typed_as_map boolean boolean_data (λ _. refl) (λ _. tt) c.in-Bools.field-0.now)

pub returns-in-I16s : goal.returns-in-I16s
returns-in-I16s c = rw (c.in-I16s.is, kind_of-I16) (typed_as_map (number i16) (λ z. number_data i16 (cast_unsigned w16 z)) (λ _. refl) (λ _. tt) c.in-I16s.field-0.now)

pub returns-in-U16s : goal.returns-in-U16s
returns-in-U16s c = rw (c.in-U16s.is, kind_of-U16) (typed_as_map (number u16) (number_data u16) (λ _. refl) (λ _. tt) c.in-U16s.field-0.now)

pub returns-in-I32s : goal.returns-in-I32s
returns-in-I32s c = rw (c.in-I32s.is, kind_of-I32) (typed_as_map (number i32) (λ z. number_data i32 (cast_unsigned w32 z)) (λ _. refl) (λ _. tt) c.in-I32s.field-0.now)

pub returns-in-U32s : goal.returns-in-U32s
returns-in-U32s c = rw (c.in-U32s.is, kind_of-U32) (typed_as_map (number u32) (number_data u32) (λ _. refl) (λ _. tt) c.in-U32s.field-0.now)

pub returns-in-I64s : goal.returns-in-I64s
returns-in-I64s c = rw (c.in-I64s.is, kind_of-I64) (typed_as_map (number i64) (λ z. number_data i64 (cast_unsigned w64 z)) (λ _. refl) (λ _. tt) c.in-I64s.field-0.now)

pub returns-in-U64s : goal.returns-in-U64s
returns-in-U64s c = rw (c.in-U64s.is, kind_of-U64) (typed_as_map (number u64) (number_data u64) (λ _. refl) (λ _. tt) c.in-U64s.field-0.now)

pub returns-in-Doubles : goal.returns-in-Doubles
returns-in-Doubles c = rw (c.in-Doubles.is, kind_of-Double) (typed_as_map (number double) (number_data double) (λ _. refl) (λ _. tt) c.in-Doubles.field-0.now)
