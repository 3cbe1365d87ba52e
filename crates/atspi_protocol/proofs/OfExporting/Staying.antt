-- A tree stays a tree, whatever message comes.
use Rattle.std.proofs.Common.{◌≡◌, ℕ, Bool, true, false, Option, Some, None, refl}
use Rattle.std.specs.Prelude.{◌==◌, List, bytes_eq, if◌then◌else◌, Result, Ok, Err}
use Rattle.atspi_types.specs.Data.{Data}
use Rattle.atspi_tree_model.specs.declared.edit.Edit.{Edit}
use Rattle.atspi_tree_model.specs.declared.edit.Edit.TheVariants.{Put, Cut, Caret, Mark, Select, Deselect, Press}
use Rattle.atspi_tree_model.specs.declared.edit.EditFault.{EditFault}
use Rattle.atspi_tree_model.specs.declared.step.Step.{Step}
use Rattle.atspi_tree_model.specs.Forest.{find}
use Rattle.atspi_tree_model.specs.Row.{TreeRow}
use Rattle.atspi_tree_model.specs.RowRules.{rows}
use Rattle.atspi_tree_model.specs.Tree.{is_node, IsTree, AllApply}
use Rattle.atspi_tree_model.specs.Path.{path_of}
use Rattle.atspi_tree_model.specs.Edits.{steps_of_tree, IsEdit}
use Rattle.atspi_tree_model.proofs.Begins.{rows_begin}
use Rattle.atspi_tree_model.proofs.EditsApply.{steps_apply}
use Rattle.atspi_message.specs.Envelope.{Envelope}
use Rattle.atspi_protocol.specs.ends.Places.{cache_path}
use Rattle.atspi_protocol.specs.declared.members.member.ObjectMember.{ObjectMember}
use Rattle.atspi_protocol.specs.declared.members.member.ObjectMember.TheVariants as members
use Rattle.atspi_protocol.specs.members.Arguments.{text_at, signed_at}
use Rattle.atspi_protocol.specs.members.Asked.{Asked, calls, gets, gets_all, sets, asked}
use Rattle.atspi_protocol.specs.objects.Application.{Application}
use Rattle.atspi_protocol.specs.objects.Places.{node, whole_tree, node_at, offered_if_there}
use Rattle.atspi_protocol.specs.objects.Changes.{edited_at, edited_between, text_exchanged, selection_removed, selection_set, selected_child_off, all_selected}
use Rattle.atspi_protocol.specs.objects.Answers.{called, node_answers, tree_answers, place_answers, answer}
use Rattle.atspi_protocol.specs.exporting.Exporter.{StartCall, hello, add_match, get_registered_events, embed, Exporter, named}
use Rattle.atspi_protocol.specs.exporting.Hearing.{pairs_in}
use Rattle.atspi_protocol.specs.exporting.Starting.{awaited, goes_on, greeted, listened, ends_start, name_or_empty, unique_name_in}
use Rattle.atspi_protocol.specs.exporting.Taking.{app_takes, app_edits, takes_other, takes_call, takes_signal, answer_to}
use Rattle.atspi_protocol.specs.exporting.Laws.{AnswersApply, HasTree, HasTreeIfDone, TreesStay}
use Rattle.atspi_protocol.proofs.OfExporting.Applying.{row_there, after_all_is_tree, changes_apply, edited_at_applies, edited_between_applies, exchanged_applies, removed_applies, set_applies, off_applies, all_applies, none_applies}

abbrev Lawful : Application → Type 0
Lawful a = IsTree rows a.tree a.added

called_applies : (a : Application) (row : TreeRow) (member : ObjectMember) (body : List Data) → Lawful a
    → find (is_node row.shape.node) a.tree ≡ Some row → AllApply rows a.tree a.added (called a row member body).steps
called_applies a row members.SetCaretOffset body t e = changes_apply a (edited_at a (Caret row.shape.node) (signed_at 0 body)) (edited_at_applies a (Caret row.shape.node) (signed_at 0 body) t (λ n. tt))
called_applies a row members.AddSelection body t e = changes_apply a (edited_between a (Mark row.shape.node) (signed_at 0 body) (signed_at 1 body)) (edited_between_applies a (Mark row.shape.node) (signed_at 0 body) (signed_at 1 body) t (λ m n. tt))
called_applies a row members.RemoveSelection body t e = changes_apply a (selection_removed row (signed_at 0 body)) (removed_applies a row (signed_at 0 body) t e)
called_applies a row members.SetSelection body t e = changes_apply a (selection_set row (signed_at 0 body) (signed_at 1 body) (signed_at 2 body)) (set_applies a row (signed_at 0 body) (signed_at 1 body) (signed_at 2 body) t e)
called_applies a row members.SetTextContents body t e = changes_apply a (text_exchanged a row (text_at 0 body)) (exchanged_applies a row (text_at 0 body) t)
called_applies a row members.InsertText body t e = changes_apply a (edited_at a (λ place. Put row.shape.node place (text_at 1 body)) (signed_at 0 body)) (edited_at_applies a (λ place. Put row.shape.node place (text_at 1 body)) (signed_at 0 body) t (λ n. tt))
called_applies a row members.DeleteText body t e = changes_apply a (edited_between a (Cut row.shape.node) (signed_at 0 body) (signed_at 1 body)) (edited_between_applies a (Cut row.shape.node) (signed_at 0 body) (signed_at 1 body) t (λ m n. tt))
called_applies a row members.SelectChild body t e = changes_apply a (edited_at a (Select row.shape.node) (signed_at 0 body)) (edited_at_applies a (Select row.shape.node) (signed_at 0 body) t (λ n. tt))
called_applies a row members.DeselectChild body t e = changes_apply a (edited_at a (Deselect row.shape.node) (signed_at 0 body)) (edited_at_applies a (Deselect row.shape.node) (signed_at 0 body) t (λ n. tt))
called_applies a row members.DeselectSelectedChild body t e = changes_apply a (selected_child_off a row (signed_at 0 body)) (off_applies a row (signed_at 0 body) t)
called_applies a row members.SelectAll body t e = changes_apply a (all_selected a row) (all_applies a row t)
called_applies a row members.ClearSelection body t e = none_applies a row t
called_applies a row members.DoAction body t e = changes_apply a (edited_at a (Press row.shape.node) (signed_at 0 body)) (edited_at_applies a (Press row.shape.node) (signed_at 0 body) t (λ n. tt))
called_applies a row members.GetChildAtIndex body t e = tt
called_applies a row members.GetChildren body t e = tt
called_applies a row members.GetIndexInParent body t e = tt
called_applies a row members.GetRelationSet body t e = tt
called_applies a row members.GetRole body t e = tt
called_applies a row members.GetRoleName body t e = tt
called_applies a row members.GetLocalizedRoleName body t e = tt
called_applies a row members.GetState body t e = tt
called_applies a row members.GetAttributes body t e = tt
called_applies a row members.GetApplication body t e = tt
called_applies a row members.GetInterfaces body t e = tt
called_applies a row members.GetLocale body t e = tt
called_applies a row members.GetItems body t e = tt
called_applies a row members.GetText body t e = tt
called_applies a row members.GetCharacterAtOffset body t e = tt
called_applies a row members.GetStringAtOffset body t e = tt
called_applies a row members.GetNSelections body t e = tt
called_applies a row members.GetSelection body t e = tt
called_applies a row members.GetSelectedChild body t e = tt
called_applies a row members.IsChildSelected body t e = tt
called_applies a row members.GetAccessibleAt body t e = tt
called_applies a row members.GetIndexAt body t e = tt
called_applies a row members.GetRowAtIndex body t e = tt
called_applies a row members.GetColumnAtIndex body t e = tt
called_applies a row members.GetSelectedRows body t e = tt
called_applies a row members.IsRowSelected body t e = tt
called_applies a row members.IsSelected body t e = tt
called_applies a row members.GetName body t e = tt
called_applies a row members.GetDescription body t e = tt
called_applies a row members.GetKeyBinding body t e = tt
called_applies a row members.GetActions body t e = tt
called_applies a row members.RegisterEvent body t e = tt
called_applies a row members.DeregisterEvent body t e = tt
called_applies a row members.GetRegisteredEvents body t e = tt
called_applies a row members.Embed body t e = tt
called_applies a row members.Unembed body t e = tt
called_applies a row members.Get body t e = tt
called_applies a row members.GetAll body t e = tt
called_applies a row members.Set body t e = tt
called_applies a row members.Ping body t e = tt

node_applies : (a : Application) (row : TreeRow) (what : Asked) → Lawful a → find (is_node row.shape.node) a.tree ≡ Some row
    → AllApply rows a.tree a.added (node_answers a row what).steps
node_applies a row (calls member body) t e = called_applies a row member body t e
node_applies a row (gets property) t e = tt
node_applies a row (gets_all lines) t e = tt
node_applies a row (sets property value) t e = tt

whole_applies : (a : Application) (what : Asked) → AllApply rows a.tree a.added (tree_answers a what).steps
whole_applies a (calls members.GetChildAtIndex body) = tt
whole_applies a (calls members.GetChildren body) = tt
whole_applies a (calls members.GetIndexInParent body) = tt
whole_applies a (calls members.GetRelationSet body) = tt
whole_applies a (calls members.GetRole body) = tt
whole_applies a (calls members.GetRoleName body) = tt
whole_applies a (calls members.GetLocalizedRoleName body) = tt
whole_applies a (calls members.GetState body) = tt
whole_applies a (calls members.GetAttributes body) = tt
whole_applies a (calls members.GetApplication body) = tt
whole_applies a (calls members.GetInterfaces body) = tt
whole_applies a (calls members.GetLocale body) = tt
whole_applies a (calls members.GetItems body) = tt
whole_applies a (calls members.GetText body) = tt
whole_applies a (calls members.SetCaretOffset body) = tt
whole_applies a (calls members.GetCharacterAtOffset body) = tt
whole_applies a (calls members.GetStringAtOffset body) = tt
whole_applies a (calls members.GetNSelections body) = tt
whole_applies a (calls members.GetSelection body) = tt
whole_applies a (calls members.AddSelection body) = tt
whole_applies a (calls members.RemoveSelection body) = tt
whole_applies a (calls members.SetSelection body) = tt
whole_applies a (calls members.SetTextContents body) = tt
whole_applies a (calls members.InsertText body) = tt
whole_applies a (calls members.DeleteText body) = tt
whole_applies a (calls members.GetSelectedChild body) = tt
whole_applies a (calls members.SelectChild body) = tt
whole_applies a (calls members.DeselectChild body) = tt
whole_applies a (calls members.DeselectSelectedChild body) = tt
whole_applies a (calls members.IsChildSelected body) = tt
whole_applies a (calls members.SelectAll body) = tt
whole_applies a (calls members.ClearSelection body) = tt
whole_applies a (calls members.GetAccessibleAt body) = tt
whole_applies a (calls members.GetIndexAt body) = tt
whole_applies a (calls members.GetRowAtIndex body) = tt
whole_applies a (calls members.GetColumnAtIndex body) = tt
whole_applies a (calls members.GetSelectedRows body) = tt
whole_applies a (calls members.IsRowSelected body) = tt
whole_applies a (calls members.IsSelected body) = tt
whole_applies a (calls members.GetName body) = tt
whole_applies a (calls members.GetDescription body) = tt
whole_applies a (calls members.GetKeyBinding body) = tt
whole_applies a (calls members.GetActions body) = tt
whole_applies a (calls members.DoAction body) = tt
whole_applies a (calls members.RegisterEvent body) = tt
whole_applies a (calls members.DeregisterEvent body) = tt
whole_applies a (calls members.GetRegisteredEvents body) = tt
whole_applies a (calls members.Embed body) = tt
whole_applies a (calls members.Unembed body) = tt
whole_applies a (calls members.Get body) = tt
whole_applies a (calls members.GetAll body) = tt
whole_applies a (calls members.Set body) = tt
whole_applies a (calls members.Ping body) = tt
whole_applies a (gets property) = tt
whole_applies a (gets_all lines) = tt
whole_applies a (sets property value) = tt

pub answers_apply : AnswersApply
answers_apply a path interface member body t = by_cache (bytes_eq path cache_path) refl (node_at a.tree path) refl
  where
    at_node : (row : TreeRow) (r : Result Asked (List ℕ)) → find (is_node row.shape.node) a.tree ≡ Some row
        → AllApply rows a.tree a.added (place_answers a (Some (node row)) r).steps
    at_node row (Ok what) e = node_applies a row what t e
    at_node row (Err word) e = tt

    at_tree : (r : Result Asked (List ℕ)) → AllApply rows a.tree a.added (place_answers a (Some whole_tree) r).steps
    at_tree (Ok what) = whole_applies a what
    at_tree (Err word) = tt

    by_cache : (b : Bool) → bytes_eq path cache_path ≡ b → (o : Option TreeRow) → node_at a.tree path ≡ o
        → AllApply rows a.tree a.added (answer a path interface member body).steps
    by_cache true h o e = rw h (at_tree (asked (offered_if_there (Some whole_tree)) interface member body))
    by_cache false h None e = rw h (rw e tt)
    by_cache false h (Some row) e =
        rw h (rw e (at_node row (asked (offered_if_there (Some (node row))) interface member body)
        (row_there a.tree a.added row (λ (r : TreeRow). bytes_eq (path_of r.shape.node) path) t e)))

-- messages
call_stays : (s : Exporter) (name : List ℕ) (e : Envelope) (sender : Option (List ℕ)) → e.sender ≡ sender → HasTree s → HasTree (takes_call s name e)
call_stays s name e None h t = rw h t
call_stays s name e (Some caller) h t =
    rw h (after_all_is_tree s.tree s.added (answer_to s name e).steps t
    (answers_apply (named s name) (name_or_empty e.path) e.interface e.member e.body t))

named_stays : (b d : Bool) (s : Exporter) (name : List ℕ) (e : Envelope) → HasTree s
    → HasTree (if b then takes_call s name e else if d then takes_signal s e else s)
named_stays true d s name e t = call_stays s name e e.sender refl t
named_stays false true s name e t = t
named_stays false false s name e t = t

other_stays : (s : Exporter) (name : Option (List ℕ)) (e : Envelope) → HasTree s → HasTree (takes_other s name e)
other_stays s None e t = t
other_stays s (Some name) e t = named_stays (e.kind == 1) (e.kind == 4) s name e t

greeted_stays : (s : Exporter) (o : Option (List ℕ)) → HasTree s → HasTree (greeted s o)
greeted_stays s None t = t
greeted_stays s (Some name) t = t

listened_stays : (s : Exporter) (o : Option (List (List ℕ × List ℕ))) → HasTree s → HasTree (listened s o)
listened_stays s None t = t
listened_stays s (Some listed) t = t

start_stays : (b : Bool) (s : Exporter) (call : StartCall) (body : List Data) → HasTree s → HasTree (if b then goes_on s call body else ends_start s)
start_stays false s call body t = t
start_stays true s hello body t = greeted_stays s (unique_name_in body) t
start_stays true s add_match body t = t
start_stays true s get_registered_events body t = listened_stays s (pairs_in body) t
start_stays true s embed body t = t

taken : (s : Exporter) (e : Envelope) → HasTree s → HasTree (app_takes s e)
taken s e t = by_call (awaited s.phase e) refl
  where
    by_call : (o : Option StartCall) → awaited s.phase e ≡ o → HasTree (app_takes s e)
    by_call None h = rw h (other_stays s s.name e t)
    by_call (Some call) h = rw h (start_stays (e.kind == 2) s call e.body t)

edited : (s : Exporter) (edit : Edit) → HasTree s → IsEdit edit → HasTreeIfDone (app_edits s edit)
edited s edit t w = by_steps (steps_of_tree s.tree s.added edit) refl
  where
    by_steps : (r : Result (List Step) EditFault) → steps_of_tree s.tree s.added edit ≡ r → HasTreeIfDone (app_edits s edit)
    by_steps (Ok steps) h = rw h (after_all_is_tree s.tree s.added steps t (steps_apply s.tree s.added edit steps t w h))
    by_steps (Err fault) h = rw h tt

pub trees_stay : TreesStay
trees_stay = record { begins = rows_begin; taken = taken; edited = edited }
