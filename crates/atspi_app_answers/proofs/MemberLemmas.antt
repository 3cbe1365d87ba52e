-- Members that no node has, or that look into contents.
use Rattle.std.proofs.Common.{◌≡◌, ◌≢◌, true, false, List, [], refl}
use Rattle.std.specs.Prelude.{codes}
use Rattle.atspi_types.specs.Data.{Data}
use Rattle.atspi_tree_model.specs.Row.{TreeRow}
use Rattle.atspi_protocol.specs.declared.members.member.ObjectMember.{ObjectMember}
use Rattle.atspi_protocol.specs.declared.members.member.ObjectMember.TheVariants.{GetChildAtIndex, GetChildren, GetIndexInParent, GetRelationSet, GetRole, GetRoleName, GetLocalizedRoleName, GetState, GetAttributes, GetApplication, GetInterfaces, GetLocale, GetItems, GetText, SetCaretOffset, GetCharacterAtOffset, GetStringAtOffset, GetNSelections, GetSelection, AddSelection, RemoveSelection, SetSelection, SetTextContents, InsertText, DeleteText, GetSelectedChild, SelectChild, DeselectChild, DeselectSelectedChild, IsChildSelected, SelectAll, ClearSelection, GetAccessibleAt, GetIndexAt, GetRowAtIndex, GetColumnAtIndex, GetSelectedRows, IsRowSelected, IsSelected, GetName, GetDescription, GetKeyBinding, GetActions, DoAction, RegisterEvent, DeregisterEvent, GetRegisteredEvents, Embed, Unembed, Get, GetAll, Set, Ping}
use Rattle.atspi_protocol.specs.objects.Application.{Application}
use Rattle.atspi_protocol.specs.objects.Answers.{called, refuses, tells_all, tree_answers}
use Rattle.atspi_protocol.specs.members.Asked.{calls}
use Rattle.atspi_app_answers.specs.Told.{is_accessible, is_of_contents}

-- a member that no interface of a node has
pub unknown : (a : Application) (row : TreeRow) (body : List Data) (member : ObjectMember) → is_accessible member ≡ false → is_of_contents member ≡ false
    → member ≢ GetLocale → member ≢ Ping → called a row member body ≡ refuses a (codes "UnknownMethod")
unknown a row body GetChildAtIndex e f g h = absurd (let z : true ≡ false = e in cc)
unknown a row body GetChildren e f g h = absurd (let z : true ≡ false = e in cc)
unknown a row body GetIndexInParent e f g h = absurd (let z : true ≡ false = e in cc)
unknown a row body GetRelationSet e f g h = absurd (let z : true ≡ false = e in cc)
unknown a row body GetRole e f g h = absurd (let z : true ≡ false = e in cc)
unknown a row body GetRoleName e f g h = absurd (let z : true ≡ false = e in cc)
unknown a row body GetLocalizedRoleName e f g h = absurd (let z : true ≡ false = e in cc)
unknown a row body GetState e f g h = absurd (let z : true ≡ false = e in cc)
unknown a row body GetAttributes e f g h = absurd (let z : true ≡ false = e in cc)
unknown a row body GetApplication e f g h = absurd (let z : true ≡ false = e in cc)
unknown a row body GetInterfaces e f g h = absurd (let z : true ≡ false = e in cc)
unknown a row body GetLocale e f g h = absurd (g refl)
unknown a row body GetItems e f g h = refl
unknown a row body GetText e f g h = absurd (let z : true ≡ false = f in cc)
unknown a row body SetCaretOffset e f g h = absurd (let z : true ≡ false = f in cc)
unknown a row body GetCharacterAtOffset e f g h = absurd (let z : true ≡ false = f in cc)
unknown a row body GetStringAtOffset e f g h = absurd (let z : true ≡ false = f in cc)
unknown a row body GetNSelections e f g h = absurd (let z : true ≡ false = f in cc)
unknown a row body GetSelection e f g h = absurd (let z : true ≡ false = f in cc)
unknown a row body AddSelection e f g h = absurd (let z : true ≡ false = f in cc)
unknown a row body RemoveSelection e f g h = absurd (let z : true ≡ false = f in cc)
unknown a row body SetSelection e f g h = absurd (let z : true ≡ false = f in cc)
unknown a row body SetTextContents e f g h = absurd (let z : true ≡ false = f in cc)
unknown a row body InsertText e f g h = absurd (let z : true ≡ false = f in cc)
unknown a row body DeleteText e f g h = absurd (let z : true ≡ false = f in cc)
unknown a row body GetSelectedChild e f g h = absurd (let z : true ≡ false = f in cc)
unknown a row body SelectChild e f g h = absurd (let z : true ≡ false = f in cc)
unknown a row body DeselectChild e f g h = absurd (let z : true ≡ false = f in cc)
unknown a row body DeselectSelectedChild e f g h = absurd (let z : true ≡ false = f in cc)
unknown a row body IsChildSelected e f g h = absurd (let z : true ≡ false = f in cc)
unknown a row body SelectAll e f g h = absurd (let z : true ≡ false = f in cc)
unknown a row body ClearSelection e f g h = absurd (let z : true ≡ false = f in cc)
unknown a row body GetAccessibleAt e f g h = absurd (let z : true ≡ false = f in cc)
unknown a row body GetIndexAt e f g h = absurd (let z : true ≡ false = f in cc)
unknown a row body GetRowAtIndex e f g h = absurd (let z : true ≡ false = f in cc)
unknown a row body GetColumnAtIndex e f g h = absurd (let z : true ≡ false = f in cc)
unknown a row body GetSelectedRows e f g h = absurd (let z : true ≡ false = f in cc)
unknown a row body IsRowSelected e f g h = absurd (let z : true ≡ false = f in cc)
unknown a row body IsSelected e f g h = absurd (let z : true ≡ false = f in cc)
unknown a row body GetName e f g h = absurd (let z : true ≡ false = f in cc)
unknown a row body GetDescription e f g h = absurd (let z : true ≡ false = f in cc)
unknown a row body GetKeyBinding e f g h = absurd (let z : true ≡ false = f in cc)
unknown a row body GetActions e f g h = absurd (let z : true ≡ false = f in cc)
unknown a row body DoAction e f g h = absurd (let z : true ≡ false = f in cc)
unknown a row body RegisterEvent e f g h = refl
unknown a row body DeregisterEvent e f g h = refl
unknown a row body GetRegisteredEvents e f g h = refl
unknown a row body Embed e f g h = refl
unknown a row body Unembed e f g h = refl
unknown a row body Get e f g h = refl
unknown a row body GetAll e f g h = refl
unknown a row body Set e f g h = refl
unknown a row body Ping e f g h = absurd (h refl)

-- of the object for the whole tree each member but one returns nothing
pub nothing : (a : Application) (body : List Data) (member : ObjectMember) → member ≢ GetItems → tree_answers a (calls member body) ≡ tells_all a []
nothing a body GetChildAtIndex h = refl
nothing a body GetChildren h = refl
nothing a body GetIndexInParent h = refl
nothing a body GetRelationSet h = refl
nothing a body GetRole h = refl
nothing a body GetRoleName h = refl
nothing a body GetLocalizedRoleName h = refl
nothing a body GetState h = refl
nothing a body GetAttributes h = refl
nothing a body GetApplication h = refl
nothing a body GetInterfaces h = refl
nothing a body GetLocale h = refl
nothing a body GetItems h = absurd (h refl)
nothing a body GetText h = refl
nothing a body SetCaretOffset h = refl
nothing a body GetCharacterAtOffset h = refl
nothing a body GetStringAtOffset h = refl
nothing a body GetNSelections h = refl
nothing a body GetSelection h = refl
nothing a body AddSelection h = refl
nothing a body RemoveSelection h = refl
nothing a body SetSelection h = refl
nothing a body SetTextContents h = refl
nothing a body InsertText h = refl
nothing a body DeleteText h = refl
nothing a body GetSelectedChild h = refl
nothing a body SelectChild h = refl
nothing a body DeselectChild h = refl
nothing a body DeselectSelectedChild h = refl
nothing a body IsChildSelected h = refl
nothing a body SelectAll h = refl
nothing a body ClearSelection h = refl
nothing a body GetAccessibleAt h = refl
nothing a body GetIndexAt h = refl
nothing a body GetRowAtIndex h = refl
nothing a body GetColumnAtIndex h = refl
nothing a body GetSelectedRows h = refl
nothing a body IsRowSelected h = refl
nothing a body IsSelected h = refl
nothing a body GetName h = refl
nothing a body GetDescription h = refl
nothing a body GetKeyBinding h = refl
nothing a body GetActions h = refl
nothing a body DoAction h = refl
nothing a body RegisterEvent h = refl
nothing a body DeregisterEvent h = refl
nothing a body GetRegisteredEvents h = refl
nothing a body Embed h = refl
nothing a body Unembed h = refl
nothing a body Get h = refl
nothing a body GetAll h = refl
nothing a body Set h = refl
nothing a body Ping h = refl
