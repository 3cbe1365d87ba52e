-- A face as a finite map from its nodes to their contents.
use Rattle.std.specs.Prelude.{◌≡◌, ℕ, ◌≤◌, ◌<◌, Option, None, Some, IsSome, MatchOption, List, []}
use Rattle.std.specs.Option.{option_map_or}
use Rattle.std.specs.Ordering.{nat_cmp}
use Rattle.std.specs.FinMap.{FinMap, get, insert}
use Rattle.atspi_tree_model.specs.declared.contents.FaceKind.{FaceKind}
use Rattle.atspi_tree_model.specs.declared.contents.FaceKind.TheVariants.{Chars}
use Rattle.atspi_tree_model.specs.declared.contents.FaceData.{FaceData}
use Rattle.atspi_faces.specs.declared.face.change.Change.{Change}
use Rattle.atspi_faces.specs.face.Contents.{kind_of, count_of, caret_of, marks_of, part_of, IsPart, IsChange, changed}
use Rattle.atspi_faces.specs.face.Contents.{IsContents}

abbrev pub Nodes : Type 0
Nodes = FinMap nat_cmp FaceData

-- the contents of each node are contents of the kind
abbrev pub AreContents : FaceKind → Nodes → Type 0
AreContents kind nodes = (node : ℕ) (what : FaceData) → get nodes node ≡ Some what → IsContents kind what

-- the node is here, and P holds of its contents
abbrev pub At : Nodes → ℕ → (FaceData → Type 0) → Type 0
At nodes node P = MatchOption (get nodes node) ⊥ P

abbrev pub HasText : Nodes → ℕ → Type 0
HasText nodes node = At nodes node (λ what. kind_of what ≡ Chars)

abbrev pub HasPart : Nodes → ℕ → ℕ → ℕ → Type 0
HasPart nodes node from to = At nodes node (λ what. IsPart what from to)

abbrev pub CanChange : Nodes → ℕ → Change → Type 0
CanChange nodes node change = At nodes node (λ what. IsChange what change)

-- what is asked of a node, 0 or nothing where it is not here
abbrev pub count_at : Nodes → ℕ → ℕ
count_at nodes node = option_map_or count_of (get nodes node) 0

abbrev pub caret_at : Nodes → ℕ → ℕ
caret_at nodes node = option_map_or caret_of (get nodes node) 0

abbrev pub marks_at : Nodes → ℕ → List (ℕ × ℕ)
marks_at nodes node = option_map_or marks_of (get nodes node) []

abbrev pub part_at : Nodes → ℕ → ℕ → ℕ → List ℕ
part_at nodes node from to = option_map_or (λ what. part_of what from to) (get nodes node) []

-- the nodes after a change of one of them
abbrev pub changed_at : Nodes → ℕ → Change → Nodes
changed_at nodes node change = option_map_or (λ what. insert nodes node (changed what change)) (get nodes node) nodes

-- the least node that is at least from, or none
abbrev pub IsNext : Nodes → ℕ → Option ℕ → Type 0
IsNext nodes from next = MatchOption next
    ((node : ℕ) → from ≤ node → get nodes node ≡ None)
    (λ node. (from ≤ node) × IsSome (get nodes node) × ((less : ℕ) → from ≤ less → less < node → get nodes less ≡ None))
