-- What members and properties of a node tell, by its tree, whatever the contents of nodes.
use Rattle.std.specs.Prelude.{◌≡◌, ℕ, ℤ, Bool, true, false, List, [], ◌∷◌, ◌++◌, map, Some, Ok}
use Rattle.atspi_types.specs.Data.{Data, text_data}
use Rattle.atspi_tree_model.specs.Row.{ShapeRow, TreeRow}
use Rattle.atspi_tree.specs.TreeShape.{TreeShape, row_of}
use Rattle.atspi_protocol.specs.whole.Whole.{Faces, filled}
use Rattle.atspi_protocol.specs.ends.Messages.{returns, error_word}
use Rattle.atspi_protocol.specs.declared.members.member.ObjectMember.{ObjectMember}
use Rattle.atspi_protocol.specs.declared.members.member.ObjectMember.TheVariants.{GetChildAtIndex, GetChildren}
use Rattle.atspi_protocol.specs.declared.members.member.ObjectMember.TheVariants.{GetIndexInParent, GetRelationSet}
use Rattle.atspi_protocol.specs.declared.members.member.ObjectMember.TheVariants.{GetRole, GetRoleName}
use Rattle.atspi_protocol.specs.declared.members.member.ObjectMember.TheVariants.{GetLocalizedRoleName, GetState}
use Rattle.atspi_protocol.specs.declared.members.member.ObjectMember.TheVariants.{GetAttributes, GetApplication}
use Rattle.atspi_protocol.specs.declared.members.member.ObjectMember.TheVariants.{GetInterfaces, GetText}
use Rattle.atspi_protocol.specs.declared.members.member.ObjectMember.TheVariants.{SetCaretOffset, GetCharacterAtOffset}
use Rattle.atspi_protocol.specs.declared.members.member.ObjectMember.TheVariants.{GetStringAtOffset}
use Rattle.atspi_protocol.specs.declared.members.member.ObjectMember.TheVariants.{GetNSelections, GetSelection}
use Rattle.atspi_protocol.specs.declared.members.member.ObjectMember.TheVariants.{AddSelection, RemoveSelection}
use Rattle.atspi_protocol.specs.declared.members.member.ObjectMember.TheVariants.{SetSelection, SetTextContents}
use Rattle.atspi_protocol.specs.declared.members.member.ObjectMember.TheVariants.{InsertText, DeleteText}
use Rattle.atspi_protocol.specs.declared.members.member.ObjectMember.TheVariants.{GetSelectedChild, SelectChild}
use Rattle.atspi_protocol.specs.declared.members.member.ObjectMember.TheVariants.{DeselectChild, DeselectSelectedChild}
use Rattle.atspi_protocol.specs.declared.members.member.ObjectMember.TheVariants.{IsChildSelected, SelectAll}
use Rattle.atspi_protocol.specs.declared.members.member.ObjectMember.TheVariants.{ClearSelection, GetAccessibleAt}
use Rattle.atspi_protocol.specs.declared.members.member.ObjectMember.TheVariants.{GetIndexAt, GetRowAtIndex}
use Rattle.atspi_protocol.specs.declared.members.member.ObjectMember.TheVariants.{GetColumnAtIndex, GetSelectedRows}
use Rattle.atspi_protocol.specs.declared.members.member.ObjectMember.TheVariants.{IsRowSelected, IsSelected, GetName}
use Rattle.atspi_protocol.specs.declared.members.member.ObjectMember.TheVariants.{GetDescription, GetKeyBinding}
use Rattle.atspi_protocol.specs.declared.members.member.ObjectMember.TheVariants.{GetActions, DoAction}
use Rattle.atspi_protocol.specs.declared.members.property.ObjectProperty.{ObjectProperty}
use Rattle.atspi_protocol.specs.members.Table.{PropertyLine}
use Rattle.atspi_protocol.specs.objects.Values.{in_variant}
use Rattle.atspi_protocol.specs.objects.Properties.{property_data, properties_data}
use Rattle.atspi_protocol.specs.objects.Answers.{called, tells, tells_all, refuses, tree_answers, place_answers}
use Rattle.atspi_protocol.specs.members.Arguments.{int, signed_in}
use Rattle.atspi_protocol.specs.members.Asked.{calls}
use Rattle.atspi_protocol.specs.objects.Application.{Application}
use Rattle.atspi_app_calls.specs.declared.ask.Ask.{Ask}
use Rattle.atspi_app_calls.specs.declared.ask.Ask.TheVariants as asks
use Rattle.atspi_app_calls.specs.Ask.{asked_of}
use Rattle.atspi_app_answers.specs.declared.counts.Counts.{Counts}
use Rattle.atspi_app_answers.specs.declared.fault.AnswerFault.{AnswerFault}
use Rattle.atspi_app_answers.specs.declared.fault.AnswerFault.TheVariants as faults
use Rattle.atspi_app_answers.specs.declared.place.AppPlace.{AppPlace}
use Rattle.atspi_app_answers.specs.declared.place.AppPlace.TheVariants as places
use Rattle.atspi_app_answers.specs.Seen.{seen}
use Rattle.atspi_app_answers.specs.Place.{place_of}
use Rattle.atspi_app_answers.specs.Counted.{HasCountFor, HasCountsFor, HasCountsAt}

-- of a node that is there, this value, and nothing is changed
abbrev pub Tells : TreeShape → List ℕ → ℕ → ObjectMember → List Data → Data → Type 0
Tells t name n member body value =
    (faces : Faces) (id : ℤ) (s : ShapeRow) → row_of n t ≡ Some s
    → called (seen t faces name id) (filled faces s) member body ≡ tells (seen t faces name id) value

-- these values, or an error
abbrev pub TellsAll : TreeShape → List ℕ → ℕ → ObjectMember → List Data → List Data → Type 0
TellsAll t name n member body values =
    (faces : Faces) (id : ℤ) (s : ShapeRow) → row_of n t ≡ Some s
    → called (seen t faces name id) (filled faces s) member body ≡ tells_all (seen t faces name id) values

abbrev pub Refuses : TreeShape → List ℕ → ℕ → ObjectMember → List Data → AnswerFault → Type 0
Refuses t name n member body (faults.Refused error) =
    (faces : Faces) (id : ℤ) (s : ShapeRow) → row_of n t ≡ Some s
    → called (seen t faces name id) (filled faces s) member body ≡ refuses (seen t faces name id) (error_word error)
Refuses _ _ _ _ _ faults.NoMemory = Unit {0}

-- a property of the node, where the count that it tells is right
abbrev pub IsProperty : TreeShape → List ℕ → ℤ → Counts → ℕ → ObjectProperty → Data → Type 0
IsProperty t name id counts n property value =
    (faces : Faces) (s : ShapeRow) → row_of n t ≡ Some s → HasCountFor counts (filled faces s) property
    → property_data (seen t faces name id) (filled faces s) property ≡ value

-- in a variant
abbrev pub IsPropertyInVariant : TreeShape → List ℕ → ℤ → Counts → ℕ → ObjectProperty → Data → Type 0
IsPropertyInVariant t name id counts n property value =
    (faces : Faces) (s : ShapeRow) → row_of n t ≡ Some s → HasCountFor counts (filled faces s) property
    → in_variant (property_data (seen t faces name id) (filled faces s) property) ≡ value

-- a property with its name
abbrev pub entry_of : Application → TreeRow → PropertyLine → Data × Data
entry_of a row l = (text_data l.name, in_variant (property_data a row l.property))

-- all properties of some lines with their names
abbrev pub AreProperties : TreeShape → List ℕ → ℤ → Counts → ℕ → List PropertyLine → List (Data × Data) → Type 0
AreProperties t name id counts n lines pairs =
    (faces : Faces) (s : ShapeRow) → row_of n t ≡ Some s → HasCountsFor counts (filled faces s) lines
    → map (entry_of (seen t faces name id) (filled faces s)) lines ≡ pairs

-- the list with one property more
abbrev pub Puts : TreeShape → List ℕ → ℤ → Counts → ℕ → List ℕ → ObjectProperty → List (Data × Data)
    → List (Data × Data) → Type 0
Puts t name id counts n key property old new =
    (faces : Faces) (s : ShapeRow) → row_of n t ≡ Some s → HasCountFor counts (filled faces s) property
    → old ++ (text_data key, in_variant (property_data (seen t faces name id) (filled faces s) property)) ∷ [] ≡ new

-- all of them as one value
abbrev pub IsAllProperties : TreeShape → List ℕ → ℤ → Counts → ℕ → List PropertyLine → Data → Type 0
IsAllProperties t name id counts n lines value =
    (faces : Faces) (s : ShapeRow) → row_of n t ≡ Some s → HasCountsFor counts (filled faces s) lines
    → properties_data (seen t faces name id) (filled faces s) lines ≡ value

-- a member of Accessible
abbrev pub is_accessible : ObjectMember → Bool
is_accessible GetChildAtIndex = true
is_accessible GetChildren = true
is_accessible GetIndexInParent = true
is_accessible GetRelationSet = true
is_accessible GetRole = true
is_accessible GetRoleName = true
is_accessible GetLocalizedRoleName = true
is_accessible GetState = true
is_accessible GetAttributes = true
is_accessible GetApplication = true
is_accessible GetInterfaces = true
is_accessible _ = false

-- a member of Text, EditableText, Selection, Table or Action, which look into contents or change them
abbrev pub is_of_contents : ObjectMember → Bool
is_of_contents GetText = true
is_of_contents SetCaretOffset = true
is_of_contents GetCharacterAtOffset = true
is_of_contents GetStringAtOffset = true
is_of_contents GetNSelections = true
is_of_contents GetSelection = true
is_of_contents AddSelection = true
is_of_contents RemoveSelection = true
is_of_contents SetSelection = true
is_of_contents SetTextContents = true
is_of_contents InsertText = true
is_of_contents DeleteText = true
is_of_contents GetSelectedChild = true
is_of_contents SelectChild = true
is_of_contents DeselectChild = true
is_of_contents DeselectSelectedChild = true
is_of_contents IsChildSelected = true
is_of_contents SelectAll = true
is_of_contents ClearSelection = true
is_of_contents GetAccessibleAt = true
is_of_contents GetIndexAt = true
is_of_contents GetRowAtIndex = true
is_of_contents GetColumnAtIndex = true
is_of_contents GetSelectedRows = true
is_of_contents IsRowSelected = true
is_of_contents IsSelected = true
is_of_contents GetName = true
is_of_contents GetDescription = true
is_of_contents GetKeyBinding = true
is_of_contents GetActions = true
is_of_contents DoAction = true
is_of_contents _ = false

-- what Get and GetAll return
abbrev pub ReturnsProperty : TreeShape → List ℕ → ℤ → Counts → ℕ → ObjectProperty → List Data → Type 0
ReturnsProperty t name id counts n property values =
    (faces : Faces) (s : ShapeRow) → row_of n t ≡ Some s → HasCountFor counts (filled faces s) property
    → in_variant (property_data (seen t faces name id) (filled faces s) property) ∷ [] ≡ values

abbrev pub ReturnsProperties : TreeShape → List ℕ → ℤ → Counts → ℕ → List PropertyLine → List Data → Type 0
ReturnsProperties t name id counts n lines values =
    (faces : Faces) (s : ShapeRow) → row_of n t ≡ Some s → HasCountsFor counts (filled faces s) lines
    → properties_data (seen t faces name id) (filled faces s) lines ∷ [] ≡ values

-- what the members of the object for the whole tree return
abbrev pub TreeReturns : TreeShape → List ℕ → ObjectMember → List Data → Type 0
TreeReturns t name member values =
    (faces : Faces) (id : ℤ) (body : List Data)
    → tree_answers (seen t faces name id) (calls member body) ≡ tells_all (seen t faces name id) values

-- the application's number after a call: that of the value that is set
abbrev pub id_after : ℤ → Ask → ℤ
id_after id (asks.SetId n) = signed_in (Some (int n))
id_after id ask = id

-- what is asked of a node looks into no contents, and changes none
abbrev pub IsOfShape : AppPlace → Ask → Type 0
IsOfShape (places.Node n) (asks.Call member) = is_of_contents member ≡ false
IsOfShape place ask = Unit {0}

-- what is asked of an object is answered with values, or is refused
abbrev pub Returns : TreeShape → List ℕ → ℤ → Counts → AppPlace → List Data → Ask → List Data → Type 0
Returns t name id counts place body ask values =
    (faces : Faces) → HasCountsAt counts t faces place ask
    → place_answers (seen t faces name id) (place_of t faces place) (Ok (asked_of body ask))
    ≡ record { reply = returns values; steps = []; id = id_after id ask }

abbrev pub Fails : TreeShape → List ℕ → ℤ → AppPlace → List Data → Ask → AnswerFault → Type 0
Fails t name id place body ask (faults.Refused error) =
    (faces : Faces)
    → place_answers (seen t faces name id) (place_of t faces place) (Ok (asked_of body ask))
    ≡ refuses (seen t faces name id) (error_word error)
Fails _ _ _ _ _ _ faults.NoMemory = Unit {0}
