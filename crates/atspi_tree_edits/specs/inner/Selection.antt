-- The child that an edit of a selection is about.
use Rattle.std.specs.Prelude.{ℕ, ◌≡◌, ◌<◌, true, None, [], slice_index}
use Rattle.atspi_tree_model.specs.Edits.{children_of, first_fault, refusals}
use Rattle.atspi_tree_model.specs.Forest.{has, width}
use Rattle.atspi_tree_model.specs.Tree.{is_shape}
use Rattle.atspi_tree_model.specs.declared.contents.FaceData.TheVariants.{Deeds}
use Rattle.atspi_tree_model.specs.declared.edit.Edit.TheVariants.{Deselect}
use Rattle.atspi_tree.specs.TreeShape.{TreeShape, IsLawful, numbers}

-- nothing refuses the edit, and the child stands at the index
pub record IsChild (t : TreeShape) (n i child : ℕ) : Type 0 where
  pub lawful : IsLawful t
  pub there : has (is_shape n) t.rows ≡ true
  pub allowed : first_fault (refusals t.rows t.added (Deeds []) (Deselect n i)) ≡ None
  pub in_range : i < width (children_of t.rows n)
  pub stands : child ≡ slice_index (numbers (children_of t.rows n)) i
