-- What the replies to a reader's own calls say (AT-SPI2, GetItems, GetText, and Get of CaretOffset and of NColumns).
use Rattle.std.specs.Prelude.{ℕ, ◌==◌, ℤ, pos, negsuc, List, [], ◌∷◌, Option, Some, None, codes, bytes_eq}
use Rattle.std.specs.Prelude.{if◌then◌else◌}
use Rattle.atspi_types.specs.Kinds.{i32}
use Rattle.atspi_types.specs.Data.{Data, values_in, number_data, text_data, array_data, variant_data}
use Rattle.atspi_message.specs.Envelope.{Envelope}
use Rattle.atspi_tree_model.specs.declared.news.Item.{Item}
use Rattle.atspi_tree_model.specs.declared.news.News.{News}
use Rattle.atspi_tree_model.specs.declared.news.News.TheVariants.{TextIs, CaretIs, ColumnsIs}
use Rattle.atspi_protocol.specs.declared.news.part.PartName.{PartName}
use Rattle.atspi_protocol.specs.declared.news.part.PartName.TheVariants.{Text, Caret, Columns}
use Rattle.atspi_protocol.specs.news.Arguments.{signature_of, signed}
use Rattle.atspi_protocol.specs.news.CacheSignals.{item_in}

-- the items among values
abbrev pub items_among : List Data → List Item
items_among [] = []
items_among (value ∷ values) = put_before (item_in value) (items_among values)
  where
    put_before : Option Item → List Item → List Item
    put_before None items = items
    put_before (Some item) items = item ∷ items

-- the elements of the one argument, an array
abbrev pub elements_of : List Data → List Data
elements_of (array_data kind elements ∷ []) = values_in elements
elements_of body = []

-- the signature of what GetItems returns
abbrev pub items_signature : List ℕ
items_signature = codes "a((so)(so)(so)iiassusau)"

-- the items that a reply to GetItems tells; a misformed one, or an error, tells none
abbrev pub items_told : Envelope → Option (List Item)
items_told e =
    if e.kind == 2
    then (if bytes_eq (signature_of e.body) items_signature then Some (items_among (elements_of e.body)) else None)
    else None

-- a number that is told is not negative
abbrev pub if_not_negative : ℤ → News → Option News
if_not_negative (pos x) news = Some news
if_not_negative (negsuc x) news = None

-- the part that a return tells of a row
abbrev pub part_in : PartName → List ℕ → List Data → Option News
part_in Text path (text_data characters ∷ []) = Some (TextIs path characters)
part_in Caret path (variant_data kind (number_data i32 x) ∷ []) = if_not_negative (signed x) (CaretIs path (signed x))
part_in Columns path (variant_data kind (number_data i32 x) ∷ []) =
    if_not_negative (signed x) (ColumnsIs path (signed x))
part_in part path body = None

-- the part that a reply tells; a misformed one, or an error, tells none
abbrev pub part_told : PartName → List ℕ → Envelope → Option News
part_told part path e = if e.kind == 2 then part_in part path e.body else None
