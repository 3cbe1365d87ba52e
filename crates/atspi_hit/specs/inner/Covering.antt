-- Covering a point, by the numbers of nodes.
use Rattle.std.specs.Prelude.{ℕ, ℤ, Bool, false, List, [], ◌∷◌, cond, Option, None, Some}
use Rattle.std.specs.Option.{option_map_or}
use Rattle.atspi_tree_model.specs.Forest.{first_of}
use Rattle.atspi_tree.specs.TreeShape.{TreeShape, row_of}
use Rattle.atspi_hit.specs.declared.rect.Rect.{Rect}
use Rattle.atspi_hit.specs.Pointing.{covers_point}

-- a node of the tree covers the point
abbrev pub covers_node : TreeShape → (ℕ → Rect) → ℤ → ℤ → ℕ → Bool
covers_node t rects px py n = option_map_or (covers_point rects px py) (row_of n t) false

-- the last that passes
abbrev pub last_of : (ℕ → Bool) → List ℕ → Option ℕ
last_of p [] = None
last_of p (x ∷ xs) = first_of (last_of p xs) (cond (p x) (Some x) None)
