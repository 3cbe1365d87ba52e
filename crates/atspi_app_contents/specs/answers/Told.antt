-- What a call of a member that reads the contents of a node tells.
use Rattle.std.specs.Prelude.{◌≡◌, ℕ, ℤ, Bool, true, false, ◌||◌, List, Some}
use Rattle.atspi_types.specs.Data.{Data}
use Rattle.atspi_tree_model.specs.Row.{ShapeRow}
use Rattle.atspi_tree.specs.TreeShape.{TreeShape, row_of}
use Rattle.atspi_protocol.specs.whole.Whole.{Faces, filled}
use Rattle.atspi_protocol.specs.declared.members.member.ObjectMember.{ObjectMember}
use Rattle.atspi_protocol.specs.declared.members.member.ObjectMember.TheVariants.{GetText, GetCharacterAtOffset}
use Rattle.atspi_protocol.specs.declared.members.member.ObjectMember.TheVariants.{GetStringAtOffset}
use Rattle.atspi_protocol.specs.declared.members.member.ObjectMember.TheVariants.{GetNSelections, GetSelection}
use Rattle.atspi_protocol.specs.declared.members.member.ObjectMember.TheVariants.{GetSelectedChild, IsChildSelected}
use Rattle.atspi_protocol.specs.declared.members.member.ObjectMember.TheVariants.{GetAccessibleAt, GetIndexAt}
use Rattle.atspi_protocol.specs.declared.members.member.ObjectMember.TheVariants.{GetRowAtIndex, GetColumnAtIndex}
use Rattle.atspi_protocol.specs.declared.members.member.ObjectMember.TheVariants.{GetSelectedRows, IsRowSelected}
use Rattle.atspi_protocol.specs.declared.members.member.ObjectMember.TheVariants.{IsSelected, GetName, GetDescription}
use Rattle.atspi_protocol.specs.declared.members.member.ObjectMember.TheVariants.{GetKeyBinding, GetActions}
use Rattle.atspi_protocol.specs.declared.members.property.ObjectProperty.{ObjectProperty}
use Rattle.atspi_protocol.specs.declared.members.property.ObjectProperty.TheVariants.{CharacterCount, CaretOffset}
use Rattle.atspi_protocol.specs.declared.members.property.ObjectProperty.TheVariants.{NSelectedChildren, NRows}
use Rattle.atspi_protocol.specs.declared.members.property.ObjectProperty.TheVariants.{NColumns, NActions}
use Rattle.atspi_protocol.specs.objects.Properties.{property_data}
use Rattle.atspi_protocol.specs.objects.Answers.{called, tells_all}
use Rattle.atspi_app_contents.specs.values.Seen.{seen}

-- of a node that is there, these values, and nothing is changed
abbrev pub Tells : TreeShape → Faces → List ℕ → ℕ → ObjectMember → List Data → List Data → Type 0
Tells t faces name n member body values =
    (id : ℤ) (s : ShapeRow) → row_of n t ≡ Some s
    → called (seen t faces name id) (filled faces s) member body ≡ tells_all (seen t faces name id) values

-- a property of it
abbrev pub IsProperty : TreeShape → Faces → List ℕ → ℕ → ObjectProperty → Data → Type 0
IsProperty t faces name n property value = (id : ℤ) (s : ShapeRow) → row_of n t ≡ Some s
    → property_data (seen t faces name id) (filled faces s) property ≡ value

-- a member of Text, of Selection, of Table and of Action that changes nothing
abbrev pub reads_text : ObjectMember → Bool
reads_text GetText = true
reads_text GetCharacterAtOffset = true
reads_text GetStringAtOffset = true
reads_text GetNSelections = true
reads_text GetSelection = true
reads_text _ = false

abbrev pub reads_selection : ObjectMember → Bool
reads_selection GetSelectedChild = true
reads_selection IsChildSelected = true
reads_selection _ = false

abbrev pub reads_table : ObjectMember → Bool
reads_table GetAccessibleAt = true
reads_table GetIndexAt = true
reads_table GetRowAtIndex = true
reads_table GetColumnAtIndex = true
reads_table GetSelectedRows = true
reads_table IsRowSelected = true
reads_table IsSelected = true
reads_table _ = false

abbrev pub reads_actions : ObjectMember → Bool
reads_actions GetName = true
reads_actions GetDescription = true
reads_actions GetKeyBinding = true
reads_actions GetActions = true
reads_actions _ = false

abbrev pub reads_contents : ObjectMember → Bool
reads_contents member = reads_text member || reads_selection member || reads_table member || reads_actions member

-- a property of one of them
abbrev pub is_contents_property : ObjectProperty → Bool
is_contents_property CharacterCount = true
is_contents_property CaretOffset = true
is_contents_property NSelectedChildren = true
is_contents_property NRows = true
is_contents_property NColumns = true
is_contents_property NActions = true
is_contents_property _ = false
