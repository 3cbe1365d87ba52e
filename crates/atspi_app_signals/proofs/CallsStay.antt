-- No call takes a node from its place.
use Rattle.std.proofs.Common.{◌≡◌, ℕ, Bool, true, false, not, List, [], ◌∷◌, ◌++◌, map, filter, length, take, drop, suc, Option, Some, None, refl, subst}
use Rattle.std.specs.Prelude.{ℤ, pos, negsuc, nat_lt, nat_le, bytes_eq, slice_get, ◌==◌, ◌&&◌, if◌then◌else◌, Result, Ok, Err}
use Rattle.atspi_types.specs.Data.{Data}
use Rattle.atspi_tree_model.specs.declared.edit.Edit.{Edit}
use Rattle.atspi_tree_model.specs.declared.edit.Edit.TheVariants.{Put, Cut, Caret, Mark, Select, Deselect, Press}
use Rattle.atspi_tree_model.specs.declared.edit.EditFault.{EditFault}
use Rattle.atspi_tree_model.specs.declared.step.Step.{Step}
use Rattle.atspi_tree_model.specs.declared.step.Step.TheVariants.{SetState, TextSelect}
use Rattle.atspi_tree_model.specs.Edits.{steps_of_tree, others}
use Rattle.atspi_tree_model.specs.Row.{TreeRow}
use Rattle.atspi_tree_model.specs.RowRules.{rows}
use Rattle.atspi_tree_model.specs.States.{has_state, multiselectable, selected}
use Rattle.atspi_tree_model.specs.Tree.{after_all}
use Rattle.atspi_protocol.specs.ends.Places.{cache_path}
use Rattle.atspi_protocol.specs.declared.members.member.ObjectMember.{ObjectMember}
use Rattle.atspi_protocol.specs.declared.members.member.ObjectMember.TheVariants as members
use Rattle.atspi_protocol.specs.members.Arguments.{text_at, signed_at}
use Rattle.atspi_protocol.specs.members.Asked.{Asked, calls, gets, gets_all, sets, asked}
use Rattle.atspi_protocol.specs.objects.Application.{Application}
use Rattle.atspi_protocol.specs.objects.Children.{at, children_of, selected_children, is_selected}
use Rattle.atspi_protocol.specs.objects.Places.{node, whole_tree, node_at, offered_if_there}
use Rattle.atspi_protocol.specs.objects.Texts.{text_of}
use Rattle.atspi_protocol.specs.objects.Changes.{edited, edited_at, edited_between, text_exchanged, selection_removed, selection_set, selected_child_off, all_selected, none_selected}
use Rattle.atspi_protocol.specs.objects.Answers.{changes, called, node_answers, tree_answers, place_answers, answer}
use Rattle.atspi_app_signals.specs.Laws.{StayInPlace, CallsStayInPlace}
use Rattle.atspi_app_signals.proofs.EditsStay.{takes_by, edit_stays, each_made, together}

abbrev StayIfThere : Option (List Step) → Type 0
StayIfThere None = Unit {0}
StayIfThere (Some list) = StayInPlace list

changes_stay : (a : Application) (o : Option (List Step)) → StayIfThere o → StayInPlace (changes a o).steps
changes_stay a None s = tt
changes_stay a (Some list) s = s

if_stays : (b : Bool) (list : List Step) → StayInPlace list → StayIfThere (if b then Some list else None)
if_stays true list s = s
if_stays false list s = tt

edited_stays : (a : Application) (edit : Edit) → takes_by edit ≡ false → StayIfThere (edited a edit)
edited_stays a edit o = by_result (steps_of_tree a.tree a.added edit) refl
  where
    by_result : (r : Result (List Step) EditFault) → steps_of_tree a.tree a.added edit ≡ r → StayIfThere (edited a edit)
    by_result (Ok list) h = rw h (edit_stays a.tree a.added edit list o h)
    by_result (Err fault) h = rw h tt

at_stays : (a : Application) (edit : ℕ → Edit) (z : ℤ) → ((n : ℕ) → takes_by (edit n) ≡ false) → StayIfThere (edited_at a edit z)
at_stays a edit (pos n) o = edited_stays a (edit n) (o n)
at_stays a edit (negsuc n) o = tt

between_stays : (a : Application) (edit : ℕ → ℕ → Edit) (y z : ℤ) → ((m n : ℕ) → takes_by (edit m n) ≡ false) → StayIfThere (edited_between a edit y z)
between_stays a edit (pos m) (pos n) o = edited_stays a (edit m n) (o m n)
between_stays a edit (pos m) (negsuc n) o = tt
between_stays a edit (negsuc m) z o = tt

exchanged_stays : (a : Application) (row : TreeRow) (text : List ℕ) → StayIfThere (text_exchanged a row text)
exchanged_stays a row text = first (steps_of_tree a.tree a.added cut) refl
  where
    cut : Edit
    cut = Cut row.shape.node 0 (length (text_of row).characters)

    put : Edit
    put = Put row.shape.node 0 text

    then_ : List Step → Application
    then_ list = record a { tree = after_all rows a.tree list }

    second : (list : List Step) → steps_of_tree a.tree a.added cut ≡ Ok list → (o : Option (List Step)) → edited (then_ list) put ≡ o
        → StayIfThere (text_exchanged a row text)
    second list h None e = rw h (rw e tt)
    second list h (Some more) e =
        let behind : StayInPlace more = subst StayIfThere e (edited_stays (then_ list) put refl) in
        rw h (rw e (together list more (edit_stays a.tree a.added cut list refl h) behind))

    first : (r : Result (List Step) EditFault) → steps_of_tree a.tree a.added cut ≡ r → StayIfThere (text_exchanged a row text)
    first (Ok list) h = second list h (edited (then_ list) put) refl
    first (Err fault) h = rw h tt

removed_stays : (row : TreeRow) (z : ℤ) → StayIfThere (selection_removed row z)
removed_stays row (negsuc i) = tt
removed_stays row (pos i) =
    let selections = (text_of row).selections in
    if_stays (nat_lt i (length selections)) (TextSelect row.shape.node (others i selections) ∷ []) (refl, tt)

set_stays : (row : TreeRow) (x y z : ℤ) → StayIfThere (selection_set row x y z)
set_stays row (negsuc i) y z = tt
set_stays row (pos i) (negsuc m) z = tt
set_stays row (pos i) (pos m) (negsuc n) = tt
set_stays row (pos i) (pos from) (pos to) = by_range (nat_lt from to && nat_le to (length (text_of row).characters)) refl
  where
    put : (b : Bool) (marks : List (ℕ × ℕ)) → StayIfThere (if b then Some [] else Some (TextSelect row.shape.node marks ∷ []))
    put true marks = tt
    put false marks = (refl, tt)

    placed : (o : Option (ℕ × ℕ)) → slice_get (text_of row).selections i ≡ o → (nat_lt from to && nat_le to (length (text_of row).characters)) ≡ true
        → StayIfThere (selection_set row (pos i) (pos from) (pos to))
    placed None h g = rw g (rw h tt)
    placed (Some s) h g =
        let selections = (text_of row).selections in
        rw g (rw h (put ((s.0 == from) && (s.1 == to)) (take i selections ++ (from, to) ∷ drop (suc i) selections)))

    by_range : (b : Bool) → (nat_lt from to && nat_le to (length (text_of row).characters)) ≡ b → StayIfThere (selection_set row (pos i) (pos from) (pos to))
    by_range true g = placed (slice_get (text_of row).selections i) refl g
    by_range false g = rw g tt

off_stays : (a : Application) (row : TreeRow) (z : ℤ) → StayIfThere (selected_child_off a row z)
off_stays a row z = by_child (at z (selected_children a row)) refl
  where
    by_child : (o : Option TreeRow) → at z (selected_children a row) ≡ o → StayIfThere (selected_child_off a row z)
    by_child None e = rw e tt
    by_child (Some child) e = rw e (refl, tt)

all_stay : (a : Application) (row : TreeRow) → StayIfThere (all_selected a row)
all_stay a row =
    let children = filter (λ child. not (is_selected child)) (children_of a row) in
    let make = λ (child : TreeRow). SetState child.shape.node selected true in
    if_stays (has_state multiselectable row.shape.states) (map make children) (each_made make children (λ child. refl))

none_stay : (a : Application) (row : TreeRow) → StayInPlace (none_selected a row)
none_stay a row = each_made (λ (child : TreeRow). SetState child.shape.node selected false) (selected_children a row) (λ child. refl)

called_stays : (a : Application) (row : TreeRow) (member : ObjectMember) (body : List Data) → StayInPlace (called a row member body).steps
called_stays a row members.SetCaretOffset body = changes_stay a (edited_at a (Caret row.shape.node) (signed_at 0 body)) (at_stays a (Caret row.shape.node) (signed_at 0 body) (λ n. refl))
called_stays a row members.AddSelection body = changes_stay a (edited_between a (Mark row.shape.node) (signed_at 0 body) (signed_at 1 body)) (between_stays a (Mark row.shape.node) (signed_at 0 body) (signed_at 1 body) (λ m n. refl))
called_stays a row members.RemoveSelection body = changes_stay a (selection_removed row (signed_at 0 body)) (removed_stays row (signed_at 0 body))
called_stays a row members.SetSelection body = changes_stay a (selection_set row (signed_at 0 body) (signed_at 1 body) (signed_at 2 body)) (set_stays row (signed_at 0 body) (signed_at 1 body) (signed_at 2 body))
called_stays a row members.SetTextContents body = changes_stay a (text_exchanged a row (text_at 0 body)) (exchanged_stays a row (text_at 0 body))
called_stays a row members.InsertText body = changes_stay a (edited_at a (λ place. Put row.shape.node place (text_at 1 body)) (signed_at 0 body)) (at_stays a (λ place. Put row.shape.node place (text_at 1 body)) (signed_at 0 body) (λ n. refl))
called_stays a row members.DeleteText body = changes_stay a (edited_between a (Cut row.shape.node) (signed_at 0 body) (signed_at 1 body)) (between_stays a (Cut row.shape.node) (signed_at 0 body) (signed_at 1 body) (λ m n. refl))
called_stays a row members.SelectChild body = changes_stay a (edited_at a (Select row.shape.node) (signed_at 0 body)) (at_stays a (Select row.shape.node) (signed_at 0 body) (λ n. refl))
called_stays a row members.DeselectChild body = changes_stay a (edited_at a (Deselect row.shape.node) (signed_at 0 body)) (at_stays a (Deselect row.shape.node) (signed_at 0 body) (λ n. refl))
called_stays a row members.DeselectSelectedChild body = changes_stay a (selected_child_off a row (signed_at 0 body)) (off_stays a row (signed_at 0 body))
called_stays a row members.SelectAll body = changes_stay a (all_selected a row) (all_stay a row)
called_stays a row members.ClearSelection body = none_stay a row
called_stays a row members.DoAction body = changes_stay a (edited_at a (Press row.shape.node) (signed_at 0 body)) (at_stays a (Press row.shape.node) (signed_at 0 body) (λ n. refl))
called_stays a row members.GetChildAtIndex body = tt
called_stays a row members.GetChildren body = tt
called_stays a row members.GetIndexInParent body = tt
called_stays a row members.GetRelationSet body = tt
called_stays a row members.GetRole body = tt
called_stays a row members.GetRoleName body = tt
called_stays a row members.GetLocalizedRoleName body = tt
called_stays a row members.GetState body = tt
called_stays a row members.GetAttributes body = tt
called_stays a row members.GetApplication body = tt
called_stays a row members.GetInterfaces body = tt
called_stays a row members.GetLocale body = tt
called_stays a row members.GetItems body = tt
called_stays a row members.GetText body = tt
called_stays a row members.GetCharacterAtOffset body = tt
called_stays a row members.GetStringAtOffset body = tt
called_stays a row members.GetNSelections body = tt
called_stays a row members.GetSelection body = tt
called_stays a row members.GetSelectedChild body = tt
called_stays a row members.IsChildSelected body = tt
called_stays a row members.GetAccessibleAt body = tt
called_stays a row members.GetIndexAt body = tt
called_stays a row members.GetRowAtIndex body = tt
called_stays a row members.GetColumnAtIndex body = tt
called_stays a row members.GetSelectedRows body = tt
called_stays a row members.IsRowSelected body = tt
called_stays a row members.IsSelected body = tt
called_stays a row members.GetName body = tt
called_stays a row members.GetDescription body = tt
called_stays a row members.GetKeyBinding body = tt
called_stays a row members.GetActions body = tt
called_stays a row members.RegisterEvent body = tt
called_stays a row members.DeregisterEvent body = tt
called_stays a row members.GetRegisteredEvents body = tt
called_stays a row members.Embed body = tt
called_stays a row members.Unembed body = tt
called_stays a row members.Get body = tt
called_stays a row members.GetAll body = tt
called_stays a row members.Set body = tt
called_stays a row members.Ping body = tt

node_stays : (a : Application) (row : TreeRow) (what : Asked) → StayInPlace (node_answers a row what).steps
node_stays a row (calls member body) = called_stays a row member body
node_stays a row (gets property) = tt
node_stays a row (gets_all lines) = tt
node_stays a row (sets property value) = tt

whole_stays : (a : Application) (what : Asked) → StayInPlace (tree_answers a what).steps
whole_stays a (calls members.GetChildAtIndex body) = tt
whole_stays a (calls members.GetChildren body) = tt
whole_stays a (calls members.GetIndexInParent body) = tt
whole_stays a (calls members.GetRelationSet body) = tt
whole_stays a (calls members.GetRole body) = tt
whole_stays a (calls members.GetRoleName body) = tt
whole_stays a (calls members.GetLocalizedRoleName body) = tt
whole_stays a (calls members.GetState body) = tt
whole_stays a (calls members.GetAttributes body) = tt
whole_stays a (calls members.GetApplication body) = tt
whole_stays a (calls members.GetInterfaces body) = tt
whole_stays a (calls members.GetLocale body) = tt
whole_stays a (calls members.GetItems body) = tt
whole_stays a (calls members.GetText body) = tt
whole_stays a (calls members.GetCharacterAtOffset body) = tt
whole_stays a (calls members.GetStringAtOffset body) = tt
whole_stays a (calls members.GetNSelections body) = tt
whole_stays a (calls members.GetSelection body) = tt
whole_stays a (calls members.GetSelectedChild body) = tt
whole_stays a (calls members.IsChildSelected body) = tt
whole_stays a (calls members.GetAccessibleAt body) = tt
whole_stays a (calls members.GetIndexAt body) = tt
whole_stays a (calls members.GetRowAtIndex body) = tt
whole_stays a (calls members.GetColumnAtIndex body) = tt
whole_stays a (calls members.GetSelectedRows body) = tt
whole_stays a (calls members.IsRowSelected body) = tt
whole_stays a (calls members.IsSelected body) = tt
whole_stays a (calls members.GetName body) = tt
whole_stays a (calls members.GetDescription body) = tt
whole_stays a (calls members.GetKeyBinding body) = tt
whole_stays a (calls members.GetActions body) = tt
whole_stays a (calls members.RegisterEvent body) = tt
whole_stays a (calls members.DeregisterEvent body) = tt
whole_stays a (calls members.GetRegisteredEvents body) = tt
whole_stays a (calls members.Embed body) = tt
whole_stays a (calls members.Unembed body) = tt
whole_stays a (calls members.Get body) = tt
whole_stays a (calls members.GetAll body) = tt
whole_stays a (calls members.Set body) = tt
whole_stays a (calls members.Ping body) = tt
whole_stays a (calls members.SetCaretOffset body) = tt
whole_stays a (calls members.AddSelection body) = tt
whole_stays a (calls members.RemoveSelection body) = tt
whole_stays a (calls members.SetSelection body) = tt
whole_stays a (calls members.SetTextContents body) = tt
whole_stays a (calls members.InsertText body) = tt
whole_stays a (calls members.DeleteText body) = tt
whole_stays a (calls members.SelectChild body) = tt
whole_stays a (calls members.DeselectChild body) = tt
whole_stays a (calls members.DeselectSelectedChild body) = tt
whole_stays a (calls members.SelectAll body) = tt
whole_stays a (calls members.ClearSelection body) = tt
whole_stays a (calls members.DoAction body) = tt
whole_stays a (gets property) = tt
whole_stays a (gets_all lines) = tt
whole_stays a (sets property value) = tt

pub calls_stay_in_place : CallsStayInPlace
calls_stay_in_place a path interface member body = by_cache (bytes_eq path cache_path) refl (node_at a.tree path) refl
  where
    at_node : (row : TreeRow) (r : Result Asked (List ℕ)) → StayInPlace (place_answers a (Some (node row)) r).steps
    at_node row (Ok what) = node_stays a row what
    at_node row (Err word) = tt

    at_tree : (r : Result Asked (List ℕ)) → StayInPlace (place_answers a (Some whole_tree) r).steps
    at_tree (Ok what) = whole_stays a what
    at_tree (Err word) = tt

    by_cache : (b : Bool) → bytes_eq path cache_path ≡ b → (o : Option TreeRow) → node_at a.tree path ≡ o → StayInPlace (answer a path interface member body).steps
    by_cache true h o e = rw h (at_tree (asked (offered_if_there (Some whole_tree)) interface member body))
    by_cache false h None e = rw h (rw e tt)
    by_cache false h (Some row) e = rw h (rw e (at_node row (asked (offered_if_there (Some (node row))) interface member body)))
