-- The steps of a call are done as a whole.
use Rattle.std.proofs.Common.{◌≡◌, ℕ, ◌-◌, Bool, true, false, cond, not, List, [], ◌∷◌, ◌++◌, map, filter, length, take, drop, suc, Option, Some, None, refl, sym, ap, ◌∙◌, subst, inl, inr}
use Rattle.std.specs.Prelude.{ℤ, pos, negsuc, nat_lt, nat_le, slice_get, ◌==◌, ◌&&◌, if◌then◌else◌, Result, Ok, Err}
use Rattle.std.specs.Option.{option_map}
use Rattle.atspi_types.specs.Data.{Data}
use Rattle.atspi_tree_model.specs.declared.contents.FaceData.{FaceData}
use Rattle.atspi_tree_model.specs.declared.contents.FaceData.TheVariants.{Chars}
use Rattle.atspi_tree_model.specs.declared.edit.Edit.{Edit}
use Rattle.atspi_tree_model.specs.declared.edit.Edit.TheVariants.{Put, Cut, Caret, Mark, Select, Deselect, Press}
use Rattle.atspi_tree_model.specs.declared.edit.EditFault.{EditFault}
use Rattle.atspi_tree_model.specs.declared.step.Step.{Step}
use Rattle.atspi_tree_model.specs.declared.step.Step.TheVariants.{SetState, TextSelect, Delete, Insert, Caret as CaretStep}
use Rattle.atspi_tree_model.specs.Edits.{steps_of_tree, steps_unless, first_fault, refusals, made_steps, cutting, putting, known_text, text_contents, others}
use Rattle.atspi_tree_model.specs.Forest.{find}
use Rattle.atspi_tree_model.specs.Row.{ShapeRow, TreeRow, TextContents, Each, HoldsIfThere, IsText}
use Rattle.atspi_tree_model.specs.RowRules.{rows}
use Rattle.atspi_tree_model.specs.States.{has_state, multiselectable, selected}
use Rattle.atspi_tree_model.specs.Tree.{is_node, is_shape, IsTree}
use Rattle.atspi_tree_model.proofs.Lookup.{each-find, find-relabel}
use Rattle.atspi_tree.specs.TreeShape.{TreeShape, row_of}
use Rattle.atspi_tree_edits.specs.Answers.{IsKnown, edit_steps}
use Rattle.atspi_protocol.specs.whole.Whole.{Faces, whole, filled}
use Rattle.atspi_protocol.specs.declared.members.member.ObjectMember.{ObjectMember}
use Rattle.atspi_protocol.specs.declared.members.member.ObjectMember.TheVariants as members
use Rattle.atspi_protocol.specs.members.Arguments.{text_at, signed_at}
use Rattle.atspi_protocol.specs.objects.Application.{Application}
use Rattle.atspi_protocol.specs.objects.Children.{at, children_of, selected_children, is_selected}
use Rattle.atspi_protocol.specs.objects.Texts.{text_of}
use Rattle.atspi_protocol.specs.objects.Changes.{edited, edited_at, edited_between, text_exchanged, selection_removed, selection_set, selected_child_off, all_selected, none_selected}
use Rattle.atspi_protocol.specs.objects.Answers.{changes, called}
use Rattle.atspi_app_exported.specs.Doing.{CanBeDone}
use Rattle.atspi_app_exported.proofs.OneByOne.{edits_one, states_one, IsState}
use Rattle.atspi_app_contents.specs.values.Seen.{seen}
use Rattle.atspi_app_contents.proofs.OfValues.Seen.{found_number}
use Rattle.atspi_app_contents.specs.changes.inner.Steps.{granted, and_more, exchanged}
use Rattle.atspi_app_contents.proofs.OfChanges.Exchanged.{exchange_seen}

abbrev DoneIfThere : Option (List Step) → Type 0
DoneIfThere None = Unit {0}
DoneIfThere (Some list) = CanBeDone list

changes_done : (a : Application) (o : Option (List Step)) → DoneIfThere o → CanBeDone (changes a o).steps
changes_done a None s = inl tt
changes_done a (Some list) s = s

if_done : (b : Bool) (list : List Step) → CanBeDone list → DoneIfThere (if b then Some list else None)
if_done true list s = s
if_done false list s = tt

-- edits
edited_done : (a : Application) (edit : Edit) → DoneIfThere (edited a edit)
edited_done a edit = by_result (steps_of_tree a.tree a.added edit) refl
  where
    by_result : (r : Result (List Step) EditFault) → steps_of_tree a.tree a.added edit ≡ r → DoneIfThere (edited a edit)
    by_result (Ok list) h = rw h (inl (edits_one a.tree a.added edit list h))
    by_result (Err fault) h = rw h tt

at_done : (a : Application) (edit : ℕ → Edit) (z : ℤ) → DoneIfThere (edited_at a edit z)
at_done a edit (pos n) = edited_done a (edit n)
at_done a edit (negsuc n) = tt

between_done : (a : Application) (edit : ℕ → ℕ → Edit) (y z : ℤ) → DoneIfThere (edited_between a edit y z)
between_done a edit (pos m) (pos n) = edited_done a (edit m n)
between_done a edit (pos m) (negsuc n) = tt
between_done a edit (negsuc m) z = tt

-- text selections
removed_done : (row : TreeRow) (z : ℤ) → DoneIfThere (selection_removed row z)
removed_done row (negsuc i) = tt
removed_done row (pos i) =
    let selections = (text_of row).selections in
    if_done (nat_lt i (length selections)) (TextSelect row.shape.node (others i selections) ∷ []) (inl tt)

set_done : (row : TreeRow) (x y z : ℤ) → DoneIfThere (selection_set row x y z)
set_done row (negsuc i) y z = tt
set_done row (pos i) (negsuc m) z = tt
set_done row (pos i) (pos m) (negsuc n) = tt
set_done row (pos i) (pos from) (pos to) = by_range (nat_lt from to && nat_le to (length (text_of row).characters)) refl
  where
    put : (b : Bool) (marks : List (ℕ × ℕ)) → DoneIfThere (if b then Some [] else Some (TextSelect row.shape.node marks ∷ []))
    put true marks = inl tt
    put false marks = inl tt

    placed : (o : Option (ℕ × ℕ)) → slice_get (text_of row).selections i ≡ o → (nat_lt from to && nat_le to (length (text_of row).characters)) ≡ true
        → DoneIfThere (selection_set row (pos i) (pos from) (pos to))
    placed None h g = rw g (rw h tt)
    placed (Some s) h g =
        let selections = (text_of row).selections in
        rw g (rw h (put ((s.0 == from) && (s.1 == to)) (take i selections ++ (from, to) ∷ drop (suc i) selections)))

    by_range : (b : Bool) → (nat_lt from to && nat_le to (length (text_of row).characters)) ≡ b → DoneIfThere (selection_set row (pos i) (pos from) (pos to))
    by_range true g = placed (slice_get (text_of row).selections i) refl g
    by_range false g = rw g tt

-- states of children
each_state : (on : Bool) (children : List TreeRow) → Each IsState (map (λ (child : TreeRow). SetState child.shape.node selected on) children)
each_state on [] = tt
each_state on (child ∷ children) = (tt, each_state on children)

states_done : (on : Bool) (children : List TreeRow) → CanBeDone (map (λ (child : TreeRow). SetState child.shape.node selected on) children)
states_done on children = inl (states_one (map (λ (child : TreeRow). SetState child.shape.node selected on) children) (each_state on children))

off_done : (a : Application) (row : TreeRow) (z : ℤ) → DoneIfThere (selected_child_off a row z)
off_done a row z = by_child (at z (selected_children a row)) refl
  where
    by_child : (o : Option TreeRow) → at z (selected_children a row) ≡ o → DoneIfThere (selected_child_off a row z)
    by_child None e = rw e tt
    by_child (Some child) e = rw e (inl tt)

all_done : (a : Application) (row : TreeRow) → DoneIfThere (all_selected a row)
all_done a row =
    let children = filter (λ child. not (is_selected child)) (children_of a row) in
    if_done (has_state multiselectable row.shape.states) (map (λ (child : TreeRow). SetState child.shape.node selected true) children) (states_done true children)

none_done : (a : Application) (row : TreeRow) → CanBeDone (none_selected a row)
none_done a row = states_done false (selected_children a row)

-- a text in the place of another
two_done : (o p : Option EditFault) (xs ys : List Step) → CanBeDone (xs ++ ys) → DoneIfThere (and_more (granted (steps_unless o xs)) (granted (steps_unless p ys)))
two_done None None xs ys h = h
two_done None (Some fault) xs ys h = tt
two_done (Some fault) None xs ys h = tt
two_done (Some fault) (Some other) xs ys h = tt

cut_and_put : (n c : ℕ) (gone text : List ℕ) (none first empty : Bool)
    → CanBeDone (cond none [] (cond first (CaretStep n c ∷ []) [] ++ Delete n 0 gone ∷ []) ++ cond empty [] (Insert n 0 text ∷ []))
cut_and_put n c gone text true first true = inl tt
cut_and_put n c gone text true first false = inl tt
cut_and_put n c gone text false true true = inl ((λ m. m), tt)
cut_and_put n c gone text false false true = inl tt
cut_and_put n c gone text false true false = inr (refl, refl, refl)
cut_and_put n c gone text false false false = inr (refl, refl)

exchanged_done : (t : TreeShape) (known : FaceData) (n : ℕ) (text : List ℕ) → DoneIfThere (exchanged t known n text)
exchanged_done t known n text =
    let old = known_text known in
    let cut = Cut n 0 (length old.characters) in
    let put = Put n 0 text in
    two_done (first_fault (refusals t.rows t.added known cut)) (first_fault (refusals t.rows t.added (Chars [] 0 []) put)) (cutting n 0 (length old.characters) old) (putting n 0 text 0)
    (cut_and_put n (cond (nat_le old.caret (length old.characters)) 0 (old.caret - (length old.characters - 0))) (take (length old.characters - 0) (drop 0 old.characters)) text
    (0 == length old.characters) (nat_lt 0 old.caret) (length text == 0))

-- the text of a row of a lawful tree
text_is_known : (row : TreeRow) → HoldsIfThere IsText row.contents.text → IsKnown (text_contents (Some row))
text_is_known row h = by row.contents.text refl h
  where
    by : (o : Option TextContents) → row.contents.text ≡ o → HoldsIfThere IsText o → IsKnown (text_contents (Some row))
    by None e l = rw e tt
    by (Some text) e l = rw e l

row_is_known : (t : TreeShape) (faces : Faces) (k : ℕ) (s : ShapeRow) → IsTree rows (whole t.rows faces) k → row_of s.node t ≡ Some s → IsKnown (text_contents (Some (filled faces s)))
row_is_known t faces k s tree is =
    let there = find-relabel (filled faces) (is_node s.node) (is_shape s.node) (λ r. refl) t.rows ∙ ap (option_map (filled faces)) is in
    let row = each-find rows.IsLawful (is_node s.node) (whole t.rows faces) (filled faces s) tree.lawful there in
    text_is_known (filled faces s) row.1.lawful_text

called_by : (a : Application) (row : TreeRow) (member : ObjectMember) (body : List Data) → ((text : List ℕ) → DoneIfThere (text_exchanged a row text))
    → CanBeDone (called a row member body).steps
called_by a row members.GetChildAtIndex body x = inl tt
called_by a row members.GetChildren body x = inl tt
called_by a row members.GetIndexInParent body x = inl tt
called_by a row members.GetRelationSet body x = inl tt
called_by a row members.GetRole body x = inl tt
called_by a row members.GetRoleName body x = inl tt
called_by a row members.GetLocalizedRoleName body x = inl tt
called_by a row members.GetState body x = inl tt
called_by a row members.GetAttributes body x = inl tt
called_by a row members.GetApplication body x = inl tt
called_by a row members.GetInterfaces body x = inl tt
called_by a row members.GetLocale body x = inl tt
called_by a row members.GetItems body x = inl tt
called_by a row members.GetText body x = inl tt
called_by a row members.SetCaretOffset body x = changes_done a (edited_at a (Caret row.shape.node) (signed_at 0 body)) (at_done a (Caret row.shape.node) (signed_at 0 body))
called_by a row members.GetCharacterAtOffset body x = inl tt
called_by a row members.GetStringAtOffset body x = inl tt
called_by a row members.GetNSelections body x = inl tt
called_by a row members.GetSelection body x = inl tt
called_by a row members.AddSelection body x = changes_done a (edited_between a (Mark row.shape.node) (signed_at 0 body) (signed_at 1 body)) (between_done a (Mark row.shape.node) (signed_at 0 body) (signed_at 1 body))
called_by a row members.RemoveSelection body x = changes_done a (selection_removed row (signed_at 0 body)) (removed_done row (signed_at 0 body))
called_by a row members.SetSelection body x = changes_done a (selection_set row (signed_at 0 body) (signed_at 1 body) (signed_at 2 body)) (set_done row (signed_at 0 body) (signed_at 1 body) (signed_at 2 body))
called_by a row members.SetTextContents body x = changes_done a (text_exchanged a row (text_at 0 body)) (x (text_at 0 body))
called_by a row members.InsertText body x = changes_done a (edited_at a (λ place. Put row.shape.node place (text_at 1 body)) (signed_at 0 body)) (at_done a (λ place. Put row.shape.node place (text_at 1 body)) (signed_at 0 body))
called_by a row members.DeleteText body x = changes_done a (edited_between a (Cut row.shape.node) (signed_at 0 body) (signed_at 1 body)) (between_done a (Cut row.shape.node) (signed_at 0 body) (signed_at 1 body))
called_by a row members.GetSelectedChild body x = inl tt
called_by a row members.SelectChild body x = changes_done a (edited_at a (Select row.shape.node) (signed_at 0 body)) (at_done a (Select row.shape.node) (signed_at 0 body))
called_by a row members.DeselectChild body x = changes_done a (edited_at a (Deselect row.shape.node) (signed_at 0 body)) (at_done a (Deselect row.shape.node) (signed_at 0 body))
called_by a row members.DeselectSelectedChild body x = changes_done a (selected_child_off a row (signed_at 0 body)) (off_done a row (signed_at 0 body))
called_by a row members.IsChildSelected body x = inl tt
called_by a row members.SelectAll body x = changes_done a (all_selected a row) (all_done a row)
called_by a row members.ClearSelection body x = none_done a row
called_by a row members.GetAccessibleAt body x = inl tt
called_by a row members.GetIndexAt body x = inl tt
called_by a row members.GetRowAtIndex body x = inl tt
called_by a row members.GetColumnAtIndex body x = inl tt
called_by a row members.GetSelectedRows body x = inl tt
called_by a row members.IsRowSelected body x = inl tt
called_by a row members.IsSelected body x = inl tt
called_by a row members.GetName body x = inl tt
called_by a row members.GetDescription body x = inl tt
called_by a row members.GetKeyBinding body x = inl tt
called_by a row members.GetActions body x = inl tt
called_by a row members.DoAction body x = changes_done a (edited_at a (Press row.shape.node) (signed_at 0 body)) (at_done a (Press row.shape.node) (signed_at 0 body))
called_by a row members.RegisterEvent body x = inl tt
called_by a row members.DeregisterEvent body x = inl tt
called_by a row members.GetRegisteredEvents body x = inl tt
called_by a row members.Embed body x = inl tt
called_by a row members.Unembed body x = inl tt
called_by a row members.Get body x = inl tt
called_by a row members.GetAll body x = inl tt
called_by a row members.Set body x = inl tt
called_by a row members.Ping body x = inl tt

pub called_done : (t : TreeShape) (faces : Faces) (k n : ℕ) (name : List ℕ) (id : ℤ) (s : ShapeRow) (member : ObjectMember) (body : List Data) → IsTree rows (whole t.rows faces) k
    → row_of n t ≡ Some s → CanBeDone (called (seen t faces name id) (filled faces s) member body).steps
called_done t faces k n name id s member body tree is =
    let there : row_of s.node t ≡ Some s = ap (λ (m : ℕ). row_of m t) (found_number t n s is) ∙ is in
    called_by (seen t faces name id) (filled faces s) member body
    (λ text. subst DoneIfThere (sym (exchange_seen t faces name id s there text (row_is_known t faces k s tree there))) (exchanged_done t (text_contents (Some (filled faces s))) s.node text))
