-- The actions of a node.
use Rattle.std.specs.Prelude.{ℕ, List, Option, Some, []}
use Rattle.atspi_tree_model.specs.declared.contents.FaceData.{FaceData}
use Rattle.atspi_tree_model.specs.declared.contents.FaceData.TheVariants.{Deeds}

-- the names of the actions that a face keeps, none where contents are of another kind
abbrev pub actions_in : Option FaceData → List (List ℕ)
actions_in (Some (Deeds names)) = names
actions_in _ = []
