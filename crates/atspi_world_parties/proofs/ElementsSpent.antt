-- What one of many spends with what its user asks for.
use Rattle.std.proofs.Common.{◌≡◌, ℕ, true, List, map, get_or, Option, None, Some, refl, sym, ap, ◌∙◌, subst}
use Rattle.std.specs.Prelude.{Result, Ok, Err, IsErrOf, ◌↔◌}
use Rattle.std.proofs.lemmas.Bool.{ltb-true}
use Rattle.atspi_tree_model.specs.declared.edit.Edit.{Edit}
use Rattle.atspi_tree_model.specs.declared.edit.EditFault.{EditFault}
use Rattle.atspi_tree_model.specs.declared.view.Row.{Row}
use Rattle.atspi_tree_model.specs.Forest.{Forest}
use Rattle.atspi_script_lines.specs.declared.deed.Deed.{Deed}
use Rattle.atspi_protocol.specs.exporting.Exporter.{Exporter}
use Rattle.atspi_protocol.specs.exporting.Taking.{app_edits, is_spent}
use Rattle.atspi_protocol.specs.following.ReaderState.{ReaderState}
use Rattle.atspi_protocol.specs.following.Takes.{held_view, reader_calls}
use Rattle.atspi_app_known.specs.application.Seen.{IsSpentAfter}
use Rattle.atspi_trace.specs.Work.{if_refused}
use Rattle.atspi_trace.specs.play.Breaking.{IsPast}
use Rattle.atspi_trace.specs.play.Playing.{held_by}
use Rattle.atspi_trace.specs.play.Played.{if_viewed}
use Rattle.atspi_reader_calls.specs.declared.fault.CallFault.{CallFault}
use Rattle.atspi_reader_calls.specs.declared.fault.CallFault.TheVariants as call
use Rattle.atspi_world_parties.specs.Asked.{EditSpends, IsEditSpent, CallSpends, EditIsRefused, CallIsRefused}
use Rattle.atspi_world_parties.proofs.Elements.{seen_there}

-- its next serial is above the last
pub past : (s : Exporter) → is_spent s ≡ true → IsPast s.next
past s h = ltb-true 4294967296 s.next h

-- the edit is made, and spends the serials
edit_is_spent : (s : Exporter) (edit : Edit) → IsSpentAfter (app_edits s edit) → IsEditSpent s edit
edit_is_spent s edit spent = by (app_edits s edit) refl spent
  where
    by : (r : Result Exporter EditFault) → app_edits s edit ≡ r → IsSpentAfter r → IsEditSpent s edit
    by (Ok after) is h = record { state = after; edited = is; spent = past after h }
    by (Err fault) is h = absurd h

module _ {A : Type 0} (exporter : A → Exporter) where
  pub edit_spends : (apps : List A) (a : A) (number : ℕ) (edit : Edit) → a ≡ get_or apps number a
      → IsSpentAfter (app_edits (exporter a) edit) → EditSpends (map exporter apps) number edit
  edit_spends apps a number edit app_is spent = λ s at.
      let s_is : exporter a ≡ s = ap exporter app_is ∙ seen_there exporter apps number a s at in
      edit_is_spent s edit (subst (λ (x : Exporter). IsSpentAfter (app_edits x edit)) s_is spent)

-- it is not refused
pub edit_accepted : (apps : List Exporter) (number : ℕ) (edit : Edit) → EditSpends apps number edit → EditIsRefused None apps number edit
edit_accepted apps number edit spends = λ s at. ap if_refused (spends s at).edited

module _ {R : Type 0} (follower : R → ReaderState) where
  pub call_spends : {T : Type 0} (r : Result T CallFault) (readers : List R) (a : R) (number node : ℕ) (name : List ℕ) (callee : Option (List ℕ)) (deed : Deed) → a ≡ get_or readers number a → callee ≡ Some name
      → (IsErrOf r call.NotHeld ↔ (held_view (follower a) name ≡ None)) → IsErrOf r call.Spent → IsPast (reader_calls (follower a) name node deed).next → CallSpends (map follower readers) number callee node deed
  call_spends r readers a number node name callee deed reader_is named exact is past = λ s at.
      let s_is : follower a ≡ s = ap follower reader_is ∙ seen_there follower readers number a s at in
      record {
        name = name;
        named = named;
        held = ap (λ c. if_viewed (held_by (Some s) c)) named ∙ ap (λ t. if_viewed (held_view t name)) (sym s_is) ∙ by (held_view (follower a) name) exact;
        spent = subst (λ x. IsPast (reader_calls x name node deed).next) s_is past;
      }
    where
      by : (o : Option (Forest Row)) → (IsErrOf r call.NotHeld ↔ (o ≡ None)) → if_viewed o ≡ None
      by None e = (let held : IsErrOf r call.NotHeld = e.1 refl in absurd cc)
      by (Some v) e = refl

-- it is not refused either
pub call_accepted : (readers : List ReaderState) (number node : ℕ) (callee : Option (List ℕ)) (deed : Deed) → CallSpends readers number callee node deed → CallIsRefused None readers number callee
call_accepted readers number node callee deed spends = λ s at. (spends s at).held
