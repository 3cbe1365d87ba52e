-- How contracts see what a value that lies in bytes is.
use Rattle.std.specs.Prelude.{chars}
use Rattle.std.specs.Int.{w16, w32, w64, cast_unsigned}
use Rattle.atspi_types.specs.Kinds.{byte, i16, u16, i32, u32, i64, u64, double, kinds_of}
use Rattle.atspi_types.specs.Data.{Data, number_data, boolean_data, text_data, path_data, signature_data, array_data}
use Rattle.atspi_types.specs.Data.{structure_data, dictionary_data, variant_data, items_of}
use Rattle.atspi_marshal_in_place.specs.codes.TyRefs.{refs_kinds}
use Rattle.atspi_marshal.specs.Reading.{entries_in}
use Rattle.atspi_marshal_in_place.specs.Items.{item_data, item_kind, elements_data, elements_kind, entries_data}
use Rattle.atspi_marshal_in_place.specs.Items.{key_kind, value_kind, fields_data}
use Rattle.atspi_script.specs.declared.view.Parts.{Parts}
use Rattle.atspi_script.specs.declared.view.Parts.TheVariants as parts
use Rattle.atspi_script.specs.declared.view.View.{View}
use Rattle.atspi_script.specs.declared.view.View.TheVariants as views

-- the value that has these parts
abbrev pub parts_data : Parts → Data
parts_data (parts.Array es) = array_data (elements_kind es) (items_of (elements_data es))
parts_data (parts.Struct fs) = structure_data (items_of (fields_data fs))
parts_data (parts.Dictionary es) =
    dictionary_data (key_kind es) (value_kind es) (entries_in (items_of (entries_data es)))
parts_data (parts.Variant x) = variant_data (item_kind x) (item_data x)

-- the value
abbrev pub view_data : View → Data
view_data (views.Byte n) = number_data byte n
view_data (views.Bool b) = boolean_data b
view_data (views.I16 z) = number_data i16 (cast_unsigned w16 z)
view_data (views.U16 n) = number_data u16 n
view_data (views.I32 z) = number_data i32 (cast_unsigned w32 z)
view_data (views.U32 n) = number_data u32 n
view_data (views.I64 z) = number_data i64 (cast_unsigned w64 z)
view_data (views.U64 n) = number_data u64 n
view_data (views.Double n) = number_data double n
view_data (views.Text s) = text_data (chars s.now)
view_data (views.Path s) = path_data s.text.now
view_data (views.Types ts) = signature_data (kinds_of (refs_kinds ts))
view_data (views.Parts p) = parts_data p
