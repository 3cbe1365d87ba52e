-- The entries of a table as nodes.
use Rattle.std.specs.Prelude.{ℕ, List, map}
use Rattle.std.specs.FinMap.{from_entries}
use Rattle.atspi_tree_model.specs.declared.contents.FaceData.{FaceData}
use Rattle.atspi_faces.specs.face.Nodes.{Nodes}

-- where view says what a value is as plain data
abbrev pub nodes_of : {X : Type 0} → (X → FaceData) → List (ℕ × X) → Nodes
nodes_of view entries = from_entries (map (λ e. (e.0, view e.1)) entries)
