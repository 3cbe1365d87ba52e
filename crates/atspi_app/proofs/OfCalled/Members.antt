-- A member of contents reads them or changes something.
use Rattle.std.proofs.Common.{◌≡◌, true, false, refl, sym, true≢false}
use Rattle.atspi_protocol.specs.declared.members.member.ObjectMember.{ObjectMember}
use Rattle.atspi_protocol.specs.declared.members.member.ObjectMember.TheVariants as members
use Rattle.atspi_app_answers.specs.Told.{is_of_contents}
use Rattle.atspi_app_contents.specs.answers.Told.{reads_contents}
use Rattle.atspi_app_contents.specs.changes.Changing.{changes_contents}

pub changes_left : (member : ObjectMember) → is_of_contents member ≡ true → reads_contents member ≡ false → changes_contents member ≡ true
changes_left members.GetChildAtIndex h r = absurd (true≢false (sym h))
changes_left members.GetChildren h r = absurd (true≢false (sym h))
changes_left members.GetIndexInParent h r = absurd (true≢false (sym h))
changes_left members.GetRelationSet h r = absurd (true≢false (sym h))
changes_left members.GetRole h r = absurd (true≢false (sym h))
changes_left members.GetRoleName h r = absurd (true≢false (sym h))
changes_left members.GetLocalizedRoleName h r = absurd (true≢false (sym h))
changes_left members.GetState h r = absurd (true≢false (sym h))
changes_left members.GetAttributes h r = absurd (true≢false (sym h))
changes_left members.GetApplication h r = absurd (true≢false (sym h))
changes_left members.GetInterfaces h r = absurd (true≢false (sym h))
changes_left members.GetLocale h r = absurd (true≢false (sym h))
changes_left members.GetItems h r = absurd (true≢false (sym h))
changes_left members.GetText h r = absurd (true≢false r)
changes_left members.SetCaretOffset h r = refl
changes_left members.GetCharacterAtOffset h r = absurd (true≢false r)
changes_left members.GetStringAtOffset h r = absurd (true≢false r)
changes_left members.GetNSelections h r = absurd (true≢false r)
changes_left members.GetSelection h r = absurd (true≢false r)
changes_left members.AddSelection h r = refl
changes_left members.RemoveSelection h r = refl
changes_left members.SetSelection h r = refl
changes_left members.SetTextContents h r = refl
changes_left members.InsertText h r = refl
changes_left members.DeleteText h r = refl
changes_left members.GetSelectedChild h r = absurd (true≢false r)
changes_left members.SelectChild h r = refl
changes_left members.DeselectChild h r = refl
changes_left members.DeselectSelectedChild h r = refl
changes_left members.IsChildSelected h r = absurd (true≢false r)
changes_left members.SelectAll h r = refl
changes_left members.ClearSelection h r = refl
changes_left members.GetAccessibleAt h r = absurd (true≢false r)
changes_left members.GetIndexAt h r = absurd (true≢false r)
changes_left members.GetRowAtIndex h r = absurd (true≢false r)
changes_left members.GetColumnAtIndex h r = absurd (true≢false r)
changes_left members.GetSelectedRows h r = absurd (true≢false r)
changes_left members.IsRowSelected h r = absurd (true≢false r)
changes_left members.IsSelected h r = absurd (true≢false r)
changes_left members.GetName h r = absurd (true≢false r)
changes_left members.GetDescription h r = absurd (true≢false r)
changes_left members.GetKeyBinding h r = absurd (true≢false r)
changes_left members.GetActions h r = absurd (true≢false r)
changes_left members.DoAction h r = refl
changes_left members.RegisterEvent h r = absurd (true≢false (sym h))
changes_left members.DeregisterEvent h r = absurd (true≢false (sym h))
changes_left members.GetRegisteredEvents h r = absurd (true≢false (sym h))
changes_left members.Embed h r = absurd (true≢false (sym h))
changes_left members.Unembed h r = absurd (true≢false (sym h))
changes_left members.Get h r = absurd (true≢false (sym h))
changes_left members.GetAll h r = absurd (true≢false (sym h))
changes_left members.Set h r = absurd (true≢false (sym h))
changes_left members.Ping h r = absurd (true≢false (sym h))
