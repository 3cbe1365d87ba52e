-- The messages of a reader: the calls of its own accord, and those that its user asks for.
use Rattle.std.specs.Prelude.{ℕ, List, [], ◌∷◌, codes, length}
use Rattle.atspi_types.specs.Kinds.{i32}
use Rattle.atspi_types.specs.Data.{Data, number_data, text_data}
use Rattle.atspi_message.specs.Envelope.{Envelope}
use Rattle.atspi_tree_model.specs.Path.{path_of}
use Rattle.atspi_script_lines.specs.declared.deed.Deed.{Deed}
use Rattle.atspi_script_lines.specs.declared.deed.Deed.TheVariants.{SetCaret, InsertText, DeleteText, SetText}
use Rattle.atspi_script_lines.specs.declared.deed.Deed.TheVariants.{SelectChild, DeselectChild, SelectAll}
use Rattle.atspi_script_lines.specs.declared.deed.Deed.TheVariants.{ClearSelection, DoAction}
use Rattle.atspi_protocol.specs.declared.news.part.PartName.{PartName}
use Rattle.atspi_protocol.specs.declared.news.part.PartName.TheVariants.{Text, Caret, Columns}
use Rattle.atspi_protocol.specs.ends.Messages.{call_to}
use Rattle.atspi_protocol.specs.ends.Places.{bus, bus_path, registry, registry_path, root_path, cache_path}
use Rattle.atspi_protocol.specs.members.Interfaces as interfaces
use Rattle.atspi_protocol.specs.declared.following.question.Question.{Question}
use Rattle.atspi_protocol.specs.declared.following.question.Question.TheVariants.{Hello, AddMatch, RegisterEvent}
use Rattle.atspi_protocol.specs.declared.following.question.Question.TheVariants.{GetChildren, GetItems, GetPart}

-- a number as an argument, and -1
abbrev pub int : ℕ → Data
int n = number_data i32 n

abbrev pub minus_one : ℕ
minus_one = 4294967295

-- a property of an interface, as the arguments of Get
abbrev pub property : List ℕ → List ℕ → List Data
property interface name = text_data interface ∷ (text_data name ∷ [])

-- a part of the row with this path: all of the text, or the property that the part is
abbrev pub part_call : List ℕ → List ℕ → PartName → Envelope
part_call name path Text = call_to name path interfaces.text (codes "GetText") (int 0 ∷ (int minus_one ∷ []))
part_call name path Caret =
    call_to name path interfaces.properties (codes "Get") (property interfaces.text (codes "CaretOffset"))
part_call name path Columns =
    call_to name path interfaces.properties (codes "Get") (property interfaces.table (codes "NColumns"))

-- a call of the reader's own, before it has its number
abbrev pub own_call : Question → Envelope
own_call Hello = call_to bus bus_path bus (codes "Hello") []
own_call (AddMatch rule) = call_to bus bus_path bus (codes "AddMatch") (text_data rule ∷ [])
own_call (RegisterEvent pattern) =
    call_to registry registry_path interfaces.registry (codes "RegisterEvent") (text_data pattern ∷ [])
own_call GetChildren = call_to registry root_path interfaces.accessible (codes "GetChildren") []
own_call (GetItems name) = call_to name cache_path interfaces.cache (codes "GetItems") []
own_call (GetPart name path part) = part_call name path part

abbrev pub asking : ℕ → Question → Envelope
asking serial question = record (own_call question) { serial = serial }

-- what a user asks of a node, by the node's path
abbrev pub deed_call : List ℕ → List ℕ → Deed → Envelope
deed_call name path (SetCaret at) = call_to name path interfaces.text (codes "SetCaretOffset") (int at ∷ [])
deed_call name path (InsertText at text) =
    call_to name path interfaces.editable_text (codes "InsertText")
    (int at ∷ (text_data text ∷ (int (length text) ∷ [])))
deed_call name path (DeleteText from to) =
    call_to name path interfaces.editable_text (codes "DeleteText") (int from ∷ (int to ∷ []))
deed_call name path (SetText text) =
    call_to name path interfaces.editable_text (codes "SetTextContents") (text_data text ∷ [])
deed_call name path (SelectChild index) = call_to name path interfaces.selection (codes "SelectChild") (int index ∷ [])
deed_call name path (DeselectChild index) =
    call_to name path interfaces.selection (codes "DeselectChild") (int index ∷ [])
deed_call name path SelectAll = call_to name path interfaces.selection (codes "SelectAll") []
deed_call name path ClearSelection = call_to name path interfaces.selection (codes "ClearSelection") []
deed_call name path (DoAction index) = call_to name path interfaces.action (codes "DoAction") (int index ∷ [])

abbrev pub user_call : ℕ → List ℕ → ℕ → Deed → Envelope
user_call serial name node deed = record (deed_call name (path_of node) deed) { serial = serial }
