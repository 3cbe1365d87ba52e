-- How contracts see a type and a list of types.
use Rattle.std.specs.Prelude.{List}
use Rattle.atspi_types.specs.Kinds.{Kind, number, boolean, text, path, signature, array, structure, variant, dictionary}
use Rattle.atspi_types.specs.Kinds.{kinds_of, byte, i16, u16, i32, u32, i64, u64, double}
use Rattle.atspi_types.specs.declared.ty.Ty.{Ty, fold-Ty}
use Rattle.atspi_types.specs.declared.ty.Ty.TheOpen.{Ty-F, Tys-F, EntryType-F}
use Rattle.atspi_types.specs.declared.ty.Tys.{Tys, fold-Tys}

-- one level of a type, of the types of an entry, and of a list of types
abbrev pub kind_step : Ty-F Kind (Kind × Kind) (List Kind) → Kind
kind_step Ty-F.Byte = number byte
kind_step Ty-F.Bool = boolean
kind_step Ty-F.I16 = number i16
kind_step Ty-F.U16 = number u16
kind_step Ty-F.I32 = number i32
kind_step Ty-F.U32 = number u32
kind_step Ty-F.I64 = number i64
kind_step Ty-F.U64 = number u64
kind_step Ty-F.Double = number double
kind_step Ty-F.Text = text
kind_step Ty-F.Path = path
kind_step Ty-F.Sig = signature
kind_step (Ty-F.Array t) = array t.value
kind_step (Ty-F.Struct ks) = structure (kinds_of ks.value)
kind_step Ty-F.Variant = variant
kind_step (Ty-F.Dict e) = dictionary e.value.0 e.value.1

abbrev pub entry_step : EntryType-F Kind (Kind × Kind) (List Kind) → Kind × Kind
entry_step e = (e.key, e.value)

abbrev pub kinds_step : Tys-F Kind (Kind × Kind) (List Kind) → List Kind
kinds_step ts = ts.items.items

-- the type
abbrev pub kind_of : Ty → Kind
kind_of = fold-Ty Kind (Kind × Kind) (List Kind) kind_step entry_step kinds_step

-- the types of a list
abbrev pub kinds_in : Tys → List Kind
kinds_in = fold-Tys Kind (Kind × Kind) (List Kind) kind_step entry_step kinds_step
