-- A tree after several edits.
use Rattle.std.specs.Prelude.{ℕ, List, [], ◌∷◌, Result, Ok, Err}
use Rattle.atspi_tree_model.specs.declared.step.Step.{Step}
use Rattle.atspi_tree_model.specs.declared.edit.Edit.{Edit}
use Rattle.atspi_tree_model.specs.declared.edit.EditFault.{EditFault}
use Rattle.atspi_tree_model.specs.Forest.{Forest}
use Rattle.atspi_tree_model.specs.Row.{TreeRow}
use Rattle.atspi_tree_model.specs.RowRules.{rows}
use Rattle.atspi_tree_model.specs.Tree.{added_after, after_all}
use Rattle.atspi_tree_model.specs.Edits.{steps_of_tree}

-- the count of nodes ever added, after some steps
abbrev pub added_after_all : ℕ → List Step → ℕ
added_after_all added [] = added
added_after_all added (step ∷ steps) = added_after_all (added_after added step) steps

-- a tree and its count after the steps of an edit; one that is refused does nothing
abbrev pub stepped : Forest TreeRow → ℕ → Result (List Step) EditFault → Forest TreeRow × ℕ
stepped f added (Ok steps) = (after_all rows f steps, added_after_all added steps)
stepped f added (Err fault) = (f, added)

-- a tree and its count after some edits
abbrev pub edited : Forest TreeRow × ℕ → List Edit → Forest TreeRow × ℕ
edited s [] = s
edited s (edit ∷ edits) = edited (stepped s.0 s.1 (steps_of_tree s.0 s.1 edit)) edits
