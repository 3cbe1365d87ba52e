-- The action that an edit does.
use Rattle.std.specs.Prelude.{ℕ, ◌≡◌, List, ◌∷◌, None, drop}
use Rattle.atspi_tree_model.specs.Edits.{first_fault, known_actions, refusals}
use Rattle.atspi_tree_model.specs.declared.contents.FaceData.{FaceData}
use Rattle.atspi_tree_model.specs.declared.edit.Edit.TheVariants.{Press}
use Rattle.atspi_tree.specs.TreeShape.{TreeShape}

-- nothing refuses the edit, and the name stands at the index
pub record IsDeed (t : TreeShape) (known : FaceData) (n i : ℕ) (name : List ℕ) : Type 0 where
  pub allowed : first_fault (refusals t.rows t.added known (Press n i)) ≡ None
  pub more : List (List ℕ)
  pub stands : drop i (known_actions known) ≡ name ∷ more
