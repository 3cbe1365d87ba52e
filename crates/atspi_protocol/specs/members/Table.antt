-- The table of members and properties, an interface after the other (AT-SPI2's interface files): of a member the
-- signatures of what it takes and of what it gives, of a property its type.
use Rattle.std.specs.Prelude.{ℕ, Bool, true, false, List, [], ◌∷◌, ◌++◌, codes}
use Rattle.atspi_protocol.specs.members.Interfaces as names
use Rattle.atspi_protocol.specs.declared.members.member.ObjectMember.{ObjectMember}
use Rattle.atspi_protocol.specs.declared.members.member.ObjectMember.TheVariants as members
use Rattle.atspi_protocol.specs.declared.members.property.ObjectProperty.{ObjectProperty}
use Rattle.atspi_protocol.specs.declared.members.property.ObjectProperty.TheVariants as properties

-- A line of the table of members. What a member takes is all that a call of it has, or what it begins with.
pub record MemberLine : Type 0 where
  pub interface : List ℕ
  pub name : List ℕ
  pub takes : List ℕ
  pub gives : List ℕ
  pub takes_more : Bool
  pub member : ObjectMember

-- a line of the table of properties
pub record PropertyLine : Type 0 where
  pub interface : List ℕ
  pub name : List ℕ
  pub type : List ℕ
  pub is_settable : Bool
  pub property : ObjectProperty

abbrev line : List ℕ → List ℕ → List ℕ → List ℕ → ObjectMember → MemberLine
line interface name takes gives member =
    record { interface = interface; name = name; takes = takes; gives = gives; takes_more = false; member = member }

abbrev read_only : List ℕ → List ℕ → List ℕ → ObjectProperty → PropertyLine
read_only interface name type property =
    record { interface = interface; name = name; type = type; is_settable = false; property = property }

-- no value is taken, or given
abbrev nothing : List ℕ
nothing = []

abbrev pub accessible_lines : List MemberLine
accessible_lines =
    line names.accessible (codes "GetChildAtIndex") (codes "i") (codes "(so)") members.GetChildAtIndex
    ∷ line names.accessible (codes "GetChildren") nothing (codes "a(so)") members.GetChildren
    ∷ line names.accessible (codes "GetIndexInParent") nothing (codes "i") members.GetIndexInParent
    ∷ line names.accessible (codes "GetRelationSet") nothing (codes "a(ua(so))") members.GetRelationSet
    ∷ line names.accessible (codes "GetRole") nothing (codes "u") members.GetRole
    ∷ line names.accessible (codes "GetRoleName") nothing (codes "s") members.GetRoleName
    ∷ line names.accessible (codes "GetLocalizedRoleName") nothing (codes "s") members.GetLocalizedRoleName
    ∷ line names.accessible (codes "GetState") nothing (codes "au") members.GetState
    ∷ line names.accessible (codes "GetAttributes") nothing (codes "a{ss}") members.GetAttributes
    ∷ line names.accessible (codes "GetApplication") nothing (codes "(so)") members.GetApplication
    ∷ line names.accessible (codes "GetInterfaces") nothing (codes "as") members.GetInterfaces
    ∷ []

abbrev pub application_lines : List MemberLine
application_lines = line names.application (codes "GetLocale") (codes "u") (codes "s") members.GetLocale ∷ []

abbrev pub cache_lines : List MemberLine
cache_lines = line names.cache (codes "GetItems") nothing (codes "a((so)(so)(so)iiassusau)") members.GetItems ∷ []

abbrev pub text_lines : List MemberLine
text_lines =
    line names.text (codes "GetText") (codes "ii") (codes "s") members.GetText
    ∷ line names.text (codes "SetCaretOffset") (codes "i") (codes "b") members.SetCaretOffset
    ∷ line names.text (codes "GetCharacterAtOffset") (codes "i") (codes "i") members.GetCharacterAtOffset
    ∷ line names.text (codes "GetStringAtOffset") (codes "iu") (codes "sii") members.GetStringAtOffset
    ∷ line names.text (codes "GetNSelections") nothing (codes "i") members.GetNSelections
    ∷ line names.text (codes "GetSelection") (codes "i") (codes "ii") members.GetSelection
    ∷ line names.text (codes "AddSelection") (codes "ii") (codes "b") members.AddSelection
    ∷ line names.text (codes "RemoveSelection") (codes "i") (codes "b") members.RemoveSelection
    ∷ line names.text (codes "SetSelection") (codes "iii") (codes "b") members.SetSelection
    ∷ []

abbrev pub editable_text_lines : List MemberLine
editable_text_lines =
    line names.editable_text (codes "SetTextContents") (codes "s") (codes "b") members.SetTextContents
    ∷ line names.editable_text (codes "InsertText") (codes "isi") (codes "b") members.InsertText
    ∷ line names.editable_text (codes "DeleteText") (codes "ii") (codes "b") members.DeleteText
    ∷ []

abbrev pub selection_lines : List MemberLine
selection_lines =
    line names.selection (codes "GetSelectedChild") (codes "i") (codes "(so)") members.GetSelectedChild
    ∷ line names.selection (codes "SelectChild") (codes "i") (codes "b") members.SelectChild
    ∷ line names.selection (codes "DeselectChild") (codes "i") (codes "b") members.DeselectChild
    ∷ line names.selection (codes "DeselectSelectedChild") (codes "i") (codes "b") members.DeselectSelectedChild
    ∷ line names.selection (codes "IsChildSelected") (codes "i") (codes "b") members.IsChildSelected
    ∷ line names.selection (codes "SelectAll") nothing (codes "b") members.SelectAll
    ∷ line names.selection (codes "ClearSelection") nothing (codes "b") members.ClearSelection
    ∷ []

abbrev pub table_lines : List MemberLine
table_lines =
    line names.table (codes "GetAccessibleAt") (codes "ii") (codes "(so)") members.GetAccessibleAt
    ∷ line names.table (codes "GetIndexAt") (codes "ii") (codes "i") members.GetIndexAt
    ∷ line names.table (codes "GetRowAtIndex") (codes "i") (codes "i") members.GetRowAtIndex
    ∷ line names.table (codes "GetColumnAtIndex") (codes "i") (codes "i") members.GetColumnAtIndex
    ∷ line names.table (codes "GetSelectedRows") nothing (codes "ai") members.GetSelectedRows
    ∷ line names.table (codes "IsRowSelected") (codes "i") (codes "b") members.IsRowSelected
    ∷ line names.table (codes "IsSelected") (codes "ii") (codes "b") members.IsSelected
    ∷ []

abbrev pub action_lines : List MemberLine
action_lines =
    line names.action (codes "GetName") (codes "i") (codes "s") members.GetName
    ∷ line names.action (codes "GetDescription") (codes "i") (codes "s") members.GetDescription
    ∷ line names.action (codes "GetKeyBinding") (codes "i") (codes "s") members.GetKeyBinding
    ∷ line names.action (codes "GetActions") nothing (codes "a(sss)") members.GetActions
    ∷ line names.action (codes "DoAction") (codes "i") (codes "b") members.DoAction
    ∷ []

abbrev pub registry_lines : List MemberLine
registry_lines =
    record (line names.registry (codes "RegisterEvent") (codes "s") nothing members.RegisterEvent) { takes_more = true }
    ∷ line names.registry (codes "DeregisterEvent") (codes "s") nothing members.DeregisterEvent
    ∷ line names.registry (codes "GetRegisteredEvents") nothing (codes "a(ss)") members.GetRegisteredEvents
    ∷ []

abbrev pub socket_lines : List MemberLine
socket_lines =
    line names.socket (codes "Embed") (codes "(so)") (codes "(so)") members.Embed
    ∷ line names.socket (codes "Unembed") (codes "(so)") nothing members.Unembed
    ∷ []

-- the members that every object has
abbrev pub common_lines : List MemberLine
common_lines =
    line names.properties (codes "Get") (codes "ss") (codes "v") members.Get
    ∷ line names.properties (codes "GetAll") (codes "s") (codes "a{sv}") members.GetAll
    ∷ line names.properties (codes "Set") (codes "ssv") nothing members.Set
    ∷ line names.peer (codes "Ping") nothing nothing members.Ping
    ∷ []

-- all members
abbrev pub member_lines : List MemberLine
member_lines =
    accessible_lines
    ++ application_lines
    ++ cache_lines
    ++ text_lines
    ++ editable_text_lines
    ++ selection_lines
    ++ table_lines
    ++ action_lines
    ++ registry_lines
    ++ socket_lines
    ++ common_lines

-- all properties; the application's Id alone can be set
abbrev pub property_lines : List PropertyLine
property_lines =
    read_only names.accessible (codes "Name") (codes "s") properties.Name
    ∷ read_only names.accessible (codes "Description") (codes "s") properties.Description
    ∷ read_only names.accessible (codes "Parent") (codes "(so)") properties.Parent
    ∷ read_only names.accessible (codes "ChildCount") (codes "i") properties.ChildCount
    ∷ read_only names.accessible (codes "Locale") (codes "s") properties.Locale
    ∷ read_only names.accessible (codes "AccessibleId") (codes "s") properties.AccessibleId
    ∷ read_only names.application (codes "ToolkitName") (codes "s") properties.ToolkitName
    ∷ read_only names.application (codes "Version") (codes "s") properties.Version
    ∷ read_only names.application (codes "AtspiVersion") (codes "s") properties.AtspiVersion
    ∷ record (read_only names.application (codes "Id") (codes "i") properties.Id) { is_settable = true }
    ∷ read_only names.text (codes "CharacterCount") (codes "i") properties.CharacterCount
    ∷ read_only names.text (codes "CaretOffset") (codes "i") properties.CaretOffset
    ∷ read_only names.selection (codes "NSelectedChildren") (codes "i") properties.NSelectedChildren
    ∷ read_only names.table (codes "NRows") (codes "i") properties.NRows
    ∷ read_only names.table (codes "NColumns") (codes "i") properties.NColumns
    ∷ read_only names.action (codes "NActions") (codes "i") properties.NActions
    ∷ []
