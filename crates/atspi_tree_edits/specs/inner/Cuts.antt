-- The steps of a cut.
use Rattle.std.specs.Prelude.{ℕ, ◌-◌, nat_lt, nat_le, cond, List, [], ◌∷◌}
use Rattle.atspi_tree_model.specs.Edits.{cutting}
use Rattle.atspi_tree_model.specs.declared.step.Step.{Step}
use Rattle.atspi_tree_model.specs.declared.step.Step.TheVariants.{Caret}

-- a caret behind the first of what is cut goes where that stood, or on with what stands behind the last
abbrev pub leaving : ℕ → ℕ → ℕ → ℕ → List Step
leaving n from to caret = cond (nat_lt from caret) (Caret n (cond (nat_le caret to) from (caret - (to - from))) ∷ []) []

-- the steps of a cut out of these characters
abbrev pub cutting_of : ℕ → ℕ → ℕ → List ℕ → ℕ → List Step
cutting_of n from to characters caret =
    cutting n from to (record { characters = characters; caret = caret; selections = [] })
