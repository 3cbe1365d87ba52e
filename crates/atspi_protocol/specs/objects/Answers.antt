-- What an application answers to a call, and what the call changes: a line for each member (AT-SPI2's interface files).
use Rattle.std.specs.Prelude.{ℕ, ℤ, ◌/◌, ◌%◌, true, false, List, [], ◌∷◌, map, length, Option, None, Some, codes}
use Rattle.std.specs.Prelude.{Result, Ok, Err}
use Rattle.atspi_types.specs.Kinds.{text, structure, variant, kinds_of, u32}
use Rattle.atspi_types.specs.Data.{Data, number_data, boolean_data, text_data, array_data, dictionary_data}
use Rattle.atspi_types.specs.Data.{structure_data, items_of, entries_of}
use Rattle.atspi_tree_model.specs.declared.edit.Edit.TheVariants.{Put, Cut, Caret, Mark, Select, Deselect, Press}
use Rattle.atspi_tree_model.specs.declared.step.Step.{Step}
use Rattle.atspi_tree_model.specs.Row.{TreeRow}
use Rattle.atspi_tree_model.specs.Announce.{items}
use Rattle.atspi_protocol.specs.ends.Places.{registry, root_path}
use Rattle.atspi_protocol.specs.ends.Messages.{Reply, returns, fails}
use Rattle.atspi_protocol.specs.declared.members.member.ObjectMember.{ObjectMember}
use Rattle.atspi_protocol.specs.declared.members.member.ObjectMember.TheVariants.{GetChildAtIndex, GetChildren}
use Rattle.atspi_protocol.specs.declared.members.member.ObjectMember.TheVariants.{GetIndexInParent, GetRelationSet}
use Rattle.atspi_protocol.specs.declared.members.member.ObjectMember.TheVariants.{GetRole, GetRoleName}
use Rattle.atspi_protocol.specs.declared.members.member.ObjectMember.TheVariants.{GetLocalizedRoleName, GetState}
use Rattle.atspi_protocol.specs.declared.members.member.ObjectMember.TheVariants.{GetAttributes, GetApplication}
use Rattle.atspi_protocol.specs.declared.members.member.ObjectMember.TheVariants.{GetInterfaces, GetLocale, GetItems}
use Rattle.atspi_protocol.specs.declared.members.member.ObjectMember.TheVariants.{GetText, SetCaretOffset}
use Rattle.atspi_protocol.specs.declared.members.member.ObjectMember.TheVariants.{GetCharacterAtOffset}
use Rattle.atspi_protocol.specs.declared.members.member.ObjectMember.TheVariants.{GetStringAtOffset}
use Rattle.atspi_protocol.specs.declared.members.member.ObjectMember.TheVariants.{GetNSelections}
use Rattle.atspi_protocol.specs.declared.members.member.ObjectMember.TheVariants.{GetSelection, AddSelection}
use Rattle.atspi_protocol.specs.declared.members.member.ObjectMember.TheVariants.{RemoveSelection, SetSelection}
use Rattle.atspi_protocol.specs.declared.members.member.ObjectMember.TheVariants.{SetTextContents, InsertText}
use Rattle.atspi_protocol.specs.declared.members.member.ObjectMember.TheVariants.{DeleteText, GetSelectedChild}
use Rattle.atspi_protocol.specs.declared.members.member.ObjectMember.TheVariants.{SelectChild, DeselectChild}
use Rattle.atspi_protocol.specs.declared.members.member.ObjectMember.TheVariants.{DeselectSelectedChild}
use Rattle.atspi_protocol.specs.declared.members.member.ObjectMember.TheVariants.{IsChildSelected, SelectAll}
use Rattle.atspi_protocol.specs.declared.members.member.ObjectMember.TheVariants.{ClearSelection, GetAccessibleAt}
use Rattle.atspi_protocol.specs.declared.members.member.ObjectMember.TheVariants.{GetIndexAt, GetRowAtIndex}
use Rattle.atspi_protocol.specs.declared.members.member.ObjectMember.TheVariants.{GetColumnAtIndex, GetSelectedRows}
use Rattle.atspi_protocol.specs.declared.members.member.ObjectMember.TheVariants.{IsRowSelected, IsSelected, GetName}
use Rattle.atspi_protocol.specs.declared.members.member.ObjectMember.TheVariants.{GetDescription, GetKeyBinding}
use Rattle.atspi_protocol.specs.declared.members.member.ObjectMember.TheVariants.{GetActions, DoAction, Ping}
use Rattle.atspi_protocol.specs.members.Arguments.{text_at, signed_at, signed_in, unsigned_at}
use Rattle.atspi_protocol.specs.members.Granularity.{grain_of}
use Rattle.atspi_protocol.specs.members.Asked.{Asked, calls, gets, gets_all, sets, asked}
use Rattle.atspi_protocol.specs.objects.Application.{Application}
use Rattle.atspi_protocol.specs.objects.Values.{count_data, in_variant, texts_data, node_reference, reference_or_null}
use Rattle.atspi_protocol.specs.objects.Values.{references_data, role_name, words_data, item_kind, item_data}
use Rattle.atspi_protocol.specs.objects.Places.{Place, node, whole_tree, place_at, offered_if_there, node_interfaces}
use Rattle.atspi_protocol.specs.objects.Children.{at, children_of, selected_children, is_there_selected, index_data}
use Rattle.atspi_protocol.specs.objects.Children.{relations_data}
use Rattle.atspi_protocol.specs.objects.Texts.{text_of, part_of, character_data, piece_there, piece_data}
use Rattle.atspi_protocol.specs.objects.Texts.{selection_data}
use Rattle.atspi_protocol.specs.objects.Tables.{cell_index, cell_at, index_or_none, in_cells, is_row_selected}
use Rattle.atspi_protocol.specs.objects.Tables.{selected_rows}
use Rattle.atspi_protocol.specs.objects.Properties.{property_data, properties_data}
use Rattle.atspi_protocol.specs.objects.Changes.{edited_at, edited_between, text_exchanged, selection_removed}
use Rattle.atspi_protocol.specs.objects.Changes.{selection_set, selected_child_off, all_selected, none_selected}

-- the reply, the steps that are done before it, and the number of the application after it
pub record Answer : Type 0 where
  pub reply : Reply
  pub steps : List Step
  pub id : ℤ

-- nothing is changed: values, or an error
abbrev pub tells_all : Application → List Data → Answer
tells_all a values = record { reply = returns values; steps = []; id = a.id }

abbrev pub tells : Application → Data → Answer
tells a value = tells_all a (value ∷ [])

abbrev pub refuses : Application → List ℕ → Answer
refuses a word = record { reply = fails word; steps = []; id = a.id }

-- the tree is changed, and that is told; where there is nothing to do, also
abbrev pub changes : Application → Option (List Step) → Answer
changes a None = tells a (boolean_data false)
changes a (Some steps) = record { reply = returns (boolean_data true ∷ []); steps = steps; id = a.id }

-- a name of an action, empty where there is none; an action has no description and no key
abbrev pub name_data : Option (List ℕ) → Data
name_data None = text_data []
name_data (Some name) = text_data name

abbrev pub actions_data : List (List ℕ) → Data
actions_data names =
    array_data (structure (kinds_of (text ∷ text ∷ text ∷ [])))
    (items_of (map (λ name. structure_data (items_of (text_data name ∷ text_data [] ∷ text_data [] ∷ []))) names))

-- the items of all nodes
abbrev pub items_data : Application → Data
items_data a =
    array_data item_kind (items_of (map item_data (items a.name (record { bus = registry; path = root_path }) a.tree)))

-- the line of each member of a node, with the arguments of the call
abbrev pub called : Application → TreeRow → ObjectMember → List Data → Answer
called a row GetChildAtIndex body = tells a (reference_or_null a (at (signed_at 0 body) (children_of a row)))
called a row GetChildren body = tells a (references_data a (children_of a row))
called a row GetIndexInParent body = tells a (index_data a row)
called a row GetRelationSet body = tells a (relations_data a row)
called a row GetRole body = tells a (number_data u32 row.shape.role)
called a row GetRoleName body = tells a (text_data (role_name row.shape.role))
called a row GetLocalizedRoleName body = tells a (text_data (role_name row.shape.role))
called a row GetState body = tells a (words_data row.shape.states)
called a row GetAttributes body = tells a (dictionary_data text text (entries_of []))
called a row GetApplication body = tells a (node_reference a 0)
called a row GetInterfaces body = tells a (texts_data (node_interfaces row))
called a row GetLocale body = tells a (text_data (codes "C"))
called a row GetText body = tells a (text_data (part_of (text_of row).characters (signed_at 0 body) (signed_at 1 body)))
called a row SetCaretOffset body = changes a (edited_at a (Caret row.shape.node) (signed_at 0 body))
called a row GetCharacterAtOffset body = tells a (character_data (at (signed_at 0 body) (text_of row).characters))
called a row GetStringAtOffset body =
    tells_all a (piece_data (piece_there (grain_of (unsigned_at 1 body)) (text_of row).characters (signed_at 0 body)))
called a row GetNSelections body = tells a (count_data (length (text_of row).selections))
called a row GetSelection body = tells_all a (selection_data (at (signed_at 0 body) (text_of row).selections))
called a row AddSelection body =
    changes a (edited_between a (Mark row.shape.node) (signed_at 0 body) (signed_at 1 body))
called a row RemoveSelection body = changes a (selection_removed row (signed_at 0 body))
called a row SetSelection body = changes a (selection_set row (signed_at 0 body) (signed_at 1 body) (signed_at 2 body))
called a row SetTextContents body = changes a (text_exchanged a row (text_at 0 body))
called a row InsertText body =
    changes a (edited_at a (λ place. Put row.shape.node place (text_at 1 body)) (signed_at 0 body))
called a row DeleteText body = changes a (edited_between a (Cut row.shape.node) (signed_at 0 body) (signed_at 1 body))
called a row GetSelectedChild body = tells a (reference_or_null a (at (signed_at 0 body) (selected_children a row)))
called a row SelectChild body = changes a (edited_at a (Select row.shape.node) (signed_at 0 body))
called a row DeselectChild body = changes a (edited_at a (Deselect row.shape.node) (signed_at 0 body))
called a row DeselectSelectedChild body = changes a (selected_child_off a row (signed_at 0 body))
called a row IsChildSelected body =
    tells a (boolean_data (is_there_selected (at (signed_at 0 body) (children_of a row))))
called a row SelectAll body = changes a (all_selected a row)
called a row ClearSelection body = changes a (Some (none_selected a row))
called a row GetAccessibleAt body = tells a (reference_or_null a (cell_at a row (signed_at 0 body) (signed_at 1 body)))
called a row GetIndexAt body = tells a (index_or_none (cell_index a row (signed_at 0 body) (signed_at 1 body)))
called a row GetRowAtIndex body = tells a (in_cells a row (λ i columns. i / columns) (signed_at 0 body))
called a row GetColumnAtIndex body = tells a (in_cells a row (λ i columns. i % columns) (signed_at 0 body))
called a row GetSelectedRows body = tells a (selected_rows a row)
called a row IsRowSelected body = tells a (boolean_data (is_row_selected a row (signed_at 0 body)))
called a row IsSelected body =
    tells a (boolean_data (is_there_selected (cell_at a row (signed_at 0 body) (signed_at 1 body))))
called a row GetName body = tells a (name_data (at (signed_at 0 body) row.contents.actions))
called a row GetDescription body = tells a (text_data [])
called a row GetKeyBinding body = tells a (text_data [])
called a row GetActions body = tells a (actions_data row.contents.actions)
called a row DoAction body = changes a (edited_at a (Press row.shape.node) (signed_at 0 body))
called a row Ping body = tells_all a []
called a row other body = refuses a (codes "UnknownMethod")

-- what is asked of a node: a member, its properties, or another number of the application, which is its one property
-- that can be set
abbrev pub node_answers : Application → TreeRow → Asked → Answer
node_answers a row (calls member body) = called a row member body
node_answers a row (gets property) = tells a (in_variant (property_data a row property))
node_answers a row (gets_all lines) = tells a (properties_data a row lines)
node_answers a row (sets property value) = record { reply = returns []; steps = []; id = signed_in (Some value) }

-- what is asked of the object for the whole tree, which has no properties
abbrev pub tree_answers : Application → Asked → Answer
tree_answers a (calls GetItems body) = tells a (items_data a)
tree_answers a (calls other body) = tells_all a []
tree_answers a (gets_all lines) = tells a (dictionary_data text variant (entries_of []))
tree_answers a asked = refuses a (codes "UnknownProperty")

abbrev pub place_answers : Application → Option Place → Result Asked (List ℕ) → Answer
place_answers a place (Err word) = refuses a word
place_answers a None (Ok what) = refuses a (codes "UnknownObject")
place_answers a (Some (node row)) (Ok what) = node_answers a row what
place_answers a (Some whole_tree) (Ok what) = tree_answers a what

-- What the application answers to a call with this path, interface, member and body.
abbrev pub answer : Application → List ℕ → Option (List ℕ) → Option (List ℕ) → List Data → Answer
answer a path interface member body =
    let place = place_at a.tree path in
    place_answers a place (asked (offered_if_there place) interface member body)
