-- What one level of a type is.
use Rattle.atspi_types.specs.Kinds.{byte, i16, u16, i32, u32, i64, u64, double, Kind, number, boolean, text, path}
use Rattle.atspi_types.specs.Kinds.{signature, array, structure, variant, dictionary, kinds_of}
use Rattle.atspi_marshal_in_place.specs.codes.TyRefs.{ref_kind, refs_kinds}
use Rattle.atspi_marshal_in_place.specs.declared.codes.shape.Shape.{Shape}
use Rattle.atspi_marshal_in_place.specs.declared.codes.shape.Shape.TheVariants as shapes

abbrev pub shape_kind : Shape → Kind
shape_kind shapes.Byte = number byte
shape_kind shapes.Bool = boolean
shape_kind shapes.I16 = number i16
shape_kind shapes.U16 = number u16
shape_kind shapes.I32 = number i32
shape_kind shapes.U32 = number u32
shape_kind shapes.I64 = number i64
shape_kind shapes.U64 = number u64
shape_kind shapes.Double = number double
shape_kind shapes.Text = text
shape_kind shapes.Path = path
shape_kind shapes.Sig = signature
shape_kind shapes.Variant = variant
shape_kind (shapes.Array element) = array (ref_kind element)
shape_kind (shapes.Struct fields) = structure (kinds_of (refs_kinds fields))
shape_kind (shapes.Dict key value) = dictionary (ref_kind key) (ref_kind value)
