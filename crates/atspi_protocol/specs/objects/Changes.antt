-- The steps of a call that changes the tree: those of the edit that the call names. None where that edit would be
-- refused.
use Rattle.std.specs.Prelude.{ℕ, ℤ, pos, negsuc, ◌==◌, ◌&&◌, not, nat_lt, nat_le, true, false, List, [], ◌∷◌, ◌++◌, map}
use Rattle.std.specs.Prelude.{filter, length, take, drop, suc, Option, None, Some, slice_get, if◌then◌else◌, Result, Ok}
use Rattle.std.specs.Prelude.{Err}
use Rattle.atspi_tree_model.specs.declared.edit.Edit.{Edit}
use Rattle.atspi_tree_model.specs.declared.edit.Edit.TheVariants.{Put, Cut}
use Rattle.atspi_tree_model.specs.declared.edit.EditFault.{EditFault}
use Rattle.atspi_tree_model.specs.declared.step.Step.{Step}
use Rattle.atspi_tree_model.specs.declared.step.Step.TheVariants.{SetState, TextSelect}
use Rattle.atspi_tree_model.specs.States.{has_state, multiselectable, selected}
use Rattle.atspi_tree_model.specs.Row.{TreeRow}
use Rattle.atspi_tree_model.specs.RowRules.{rows}
use Rattle.atspi_tree_model.specs.Tree.{after_all}
use Rattle.atspi_tree_model.specs.Edits.{steps_of_tree, others}
use Rattle.atspi_protocol.specs.objects.Application.{Application}
use Rattle.atspi_protocol.specs.objects.Children.{at, children_of, selected_children, is_selected}
use Rattle.atspi_protocol.specs.objects.Texts.{text_of}

abbrev steps_or_none : Result (List Step) EditFault → Option (List Step)
steps_or_none (Ok steps) = Some steps
steps_or_none (Err fault) = None

-- the steps of an edit
abbrev pub edited : Application → Edit → Option (List Step)
edited a edit = steps_or_none (steps_of_tree a.tree a.added edit)

-- the same of an edit with an index or a place from outside; no edit has one below 0
abbrev pub edited_at : Application → (ℕ → Edit) → ℤ → Option (List Step)
edited_at a edit (pos n) = edited a (edit n)
edited_at a edit (negsuc n) = None

abbrev pub edited_between : Application → (ℕ → ℕ → Edit) → ℤ → ℤ → Option (List Step)
edited_between a edit (pos m) (pos n) = edited a (edit m n)
edited_between a edit _ _ = None

-- the steps of an edit and, of the tree after them, those of another. Neither adds a node
abbrev pub edited_twice : Application → Edit → Edit → Option (List Step)
edited_twice a first second = going_on (edited a first)
  where
    joined : List Step → Option (List Step) → Option (List Step)
    joined steps None = None
    joined steps (Some more) = Some (steps ++ more)

    going_on : Option (List Step) → Option (List Step)
    going_on None = None
    going_on (Some steps) = joined steps (edited (record a { tree = after_all rows a.tree steps }) second)

-- all characters are cut, and others are put in
abbrev pub text_exchanged : Application → TreeRow → List ℕ → Option (List Step)
text_exchanged a row text =
    edited_twice a (Cut row.shape.node 0 (length (text_of row).characters)) (Put row.shape.node 0 text)

-- the text selections without the one at an index
abbrev pub selection_removed : TreeRow → ℤ → Option (List Step)
selection_removed row (negsuc i) = None
selection_removed row (pos i) =
    let selections = (text_of row).selections in
    if nat_lt i (length selections) then Some (TextSelect row.shape.node (others i selections) ∷ []) else None

-- another selection in place of the one at an index, no step where it is the same
abbrev pub selection_set : TreeRow → ℤ → ℤ → ℤ → Option (List Step)
selection_set row (pos i) (pos from) (pos to) =
    if nat_lt from to && nat_le to (length (text_of row).characters)
    then in_place (slice_get (text_of row).selections i) else None
  where
    exchanged : List Step
    exchanged =
        let selections = (text_of row).selections in
        TextSelect row.shape.node (take i selections ++ (from, to) ∷ drop (suc i) selections) ∷ []

    in_place : Option (ℕ × ℕ) → Option (List Step)
    in_place None = None
    in_place (Some there) = if (there.0 == from) && (there.1 == to) then Some [] else Some exchanged
selection_set row _ _ _ = None

-- a child that is selected no more
abbrev pub deselected : TreeRow → Step
deselected child = SetState child.shape.node selected false

-- the selected child at an index
abbrev pub selected_child_off : Application → TreeRow → ℤ → Option (List Step)
selected_child_off a row i = there (at i (selected_children a row))
  where
    there : Option TreeRow → Option (List Step)
    there None = None
    there (Some child) = Some (deselected child ∷ [])

-- every child, where many can be selected at once
abbrev pub all_selected : Application → TreeRow → Option (List Step)
all_selected a row =
    if has_state multiselectable row.shape.states
    then Some
    (map (λ (child : TreeRow). SetState child.shape.node selected true)
    (filter (λ child. not (is_selected child)) (children_of a row)))
    else None

abbrev pub none_selected : Application → TreeRow → List Step
none_selected a row = map deselected (selected_children a row)
