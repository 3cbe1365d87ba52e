-- What is told of an application, as values (AT-SPI2's interface files).
use Rattle.std.specs.Prelude.{ℕ, pos, ◌/◌, ◌%◌, ◌^◌, List, [], ◌∷◌, map, Option, None, Some, codes, slice_get}
use Rattle.std.specs.Prelude.{unwrap_or}
use Rattle.atspi_types.specs.Kinds.{Kind, number, u32, i32, text, array, structure, kinds_of}
use Rattle.atspi_types.specs.Data.{Data, number_data, text_data, array_data, structure_data, variant_data, items_of}
use Rattle.atspi_types.specs.Data.{type_of}
use Rattle.atspi_tables.specs.Roles.{role_names}
use Rattle.atspi_tree_model.specs.declared.news.Reference.{Reference}
use Rattle.atspi_tree_model.specs.declared.news.Item.{Item}
use Rattle.atspi_tree_model.specs.Row.{TreeRow}
use Rattle.atspi_tree_model.specs.Path.{path_of}
use Rattle.atspi_protocol.specs.ends.Places.{reference, reference_kind, null_path}
use Rattle.atspi_protocol.specs.members.Arguments.{int}
use Rattle.atspi_protocol.specs.objects.Application.{Application}

-- a count
abbrev pub count_data : ℕ → Data
count_data n = int (pos n)

-- a value in a variant
abbrev pub in_variant : Data → Data
in_variant d = variant_data (type_of d) d

abbrev pub texts_data : List (List ℕ) → Data
texts_data names = array_data text (items_of (map text_data names))

-- a node of the application, and the node that is none
abbrev pub node_reference : Application → ℕ → Data
node_reference a n = reference a.name (path_of n)

abbrev pub null_reference : Application → Data
null_reference a = reference a.name null_path

abbrev pub row_reference : Application → TreeRow → Data
row_reference a row = node_reference a row.shape.node

abbrev pub reference_or_null : Application → Option TreeRow → Data
reference_or_null a None = null_reference a
reference_or_null a (Some row) = row_reference a row

abbrev pub references_data : Application → List TreeRow → Data
references_data a rows = array_data reference_kind (items_of (map (row_reference a) rows))

-- the spoken name of a role; one without a name is unknown
abbrev pub role_name : ℕ → List ℕ
role_name role = unwrap_or (slice_get role_names role) (codes "unknown")

-- states as two words, the low one first
abbrev pub words_data : ℕ → Data
words_data states =
    array_data (number u32) (items_of (number_data u32 (states % 2 ^ 32) ∷ number_data u32 (states / 2 ^ 32) ∷ []))

-- an item of the list of all nodes: its object, application and parent, its index, its count of children, and what is
-- told of it
abbrev pub item_kind : Kind
item_kind =
    structure (kinds_of (
    reference_kind ∷ reference_kind ∷ reference_kind
    ∷ number i32 ∷ number i32
    ∷ array text ∷ text ∷ number u32 ∷ text ∷ array (number u32)
    ∷ []
    ))

abbrev pub reference_data : Reference → Data
reference_data r = reference r.bus r.path

abbrev pub item_data : Item → Data
item_data item =
    structure_data (items_of (
    reference_data item.object ∷ reference_data item.application ∷ reference_data item.parent
    ∷ int item.index ∷ int item.children
    ∷ texts_data item.interfaces ∷ text_data item.name ∷ number_data u32 item.role ∷ text_data item.description
    ∷ words_data item.states
    ∷ []
    ))
