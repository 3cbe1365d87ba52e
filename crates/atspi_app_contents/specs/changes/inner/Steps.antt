-- The steps of changes, by the numbers of nodes and by the contents that are known.
use Rattle.std.specs.Prelude.{ℕ, ◌==◌, ◌&&◌, not, nat_lt, nat_le, suc, Bool, true, false, List, [], ◌∷◌, ◌++◌, map}
use Rattle.std.specs.Prelude.{filter, length, take, drop, Option, None, Some, slice_get, if◌then◌else◌, Result, Ok, Err}
use Rattle.atspi_tree_model.specs.declared.contents.FaceData.{FaceData}
use Rattle.atspi_tree_model.specs.declared.contents.FaceData.TheVariants.{Chars}
use Rattle.atspi_tree_model.specs.declared.edit.Edit.TheVariants.{Put, Cut}
use Rattle.atspi_tree_model.specs.declared.edit.EditFault.{EditFault}
use Rattle.atspi_tree_model.specs.declared.step.Step.{Step}
use Rattle.atspi_tree_model.specs.declared.step.Step.TheVariants.{SetState, TextSelect}
use Rattle.atspi_tree_model.specs.Forest.{Forest}
use Rattle.atspi_tree_model.specs.Row.{ShapeRow, TextContents}
use Rattle.atspi_tree_model.specs.States.{selected}
use Rattle.atspi_tree_model.specs.Edits.{known_text, others}
use Rattle.atspi_tree.specs.TreeShape.{TreeShape}
use Rattle.atspi_tree_edits.specs.Answers.{edit_steps}
use Rattle.atspi_app_contents.specs.values.Numbers.{is_selected}

-- the steps of an edit that is not refused
abbrev pub granted : Result (List Step) EditFault → Option (List Step)
granted (Ok steps) = Some steps
granted (Err fault) = None

-- what is done at a place from outside, and at two
abbrev pub at_place : (ℕ → Option (List Step)) → Option ℕ → Option (List Step)
at_place f None = None
at_place f (Some n) = f n

abbrev pub at_places : (ℕ → ℕ → Option (List Step)) → Option ℕ → Option ℕ → Option (List Step)
at_places f (Some m) (Some n) = f m n
at_places f _ _ = None

-- steps, and then others that may be refused
abbrev pub and_more : Option (List Step) → Option (List Step) → Option (List Step)
and_more (Some steps) (Some more) = Some (steps ++ more)
and_more _ _ = None

-- the characters that are known, all cut, and others put in
abbrev pub exchanged : TreeShape → FaceData → ℕ → List ℕ → Option (List Step)
exchanged t known n text =
    and_more (granted (edit_steps t known (Cut n 0 (length (known_text known).characters))))
    (granted (edit_steps t (Chars [] 0 []) (Put n 0 text)))

-- the selections without the one at an index
abbrev pub removed : ℕ → List (ℕ × ℕ) → ℕ → Option (List Step)
removed n marks i = if nat_lt i (length marks) then Some (TextSelect n (others i marks) ∷ []) else None

-- another one in its place
abbrev pub with_mark : ℕ → ℕ × ℕ → List (ℕ × ℕ) → List (ℕ × ℕ)
with_mark i mark marks = take i marks ++ mark ∷ drop (suc i) marks

abbrev pub put_in_place : ℕ → List (ℕ × ℕ) → ℕ → ℕ × ℕ → Option (ℕ × ℕ) → Option (List Step)
put_in_place n marks i mark None = None
put_in_place n marks i mark (Some there) =
    if (there.0 == mark.0) && (there.1 == mark.1) then Some [] else Some (TextSelect n (with_mark i mark marks) ∷ [])

abbrev pub replaced : ℕ → TextContents → ℕ → ℕ → ℕ → Option (List Step)
replaced n text i from to =
    if nat_lt from to && nat_le to (length text.characters)
    then put_in_place n text.selections i (from, to) (slice_get text.selections i) else None

abbrev pub replaced_at : ℕ → TextContents → Option ℕ → Option ℕ → Option ℕ → Option (List Step)
replaced_at n text (Some i) (Some from) (Some to) = replaced n text i from to
replaced_at n text _ _ _ = None

-- those of some nodes selected, or no more, that are not so
abbrev pub differs : Bool → Bool → Bool
differs true is = not is
differs false is = is

abbrev pub choosing : Forest ShapeRow → Bool → List ℕ → List Step
choosing f on nodes = map (λ m. SetState m selected on) (filter (λ m. differs on (is_selected f m)) nodes)

-- one node selected no more
abbrev pub unchosen : Option ℕ → Option (List Step)
unchosen None = None
unchosen (Some m) = Some (SetState m selected false ∷ [])
