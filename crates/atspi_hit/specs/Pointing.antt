-- The node at a point of the screen (AT-SPI2's interface file Component: GetAccessibleAtPoint).
use Rattle.std.specs.Prelude.{ℕ, ℤ, Bool, ◌&&◌, not, List, [], ◌∷◌, map, Option, None, Some}
use Rattle.atspi_tree_model.specs.Forest.{labels, pick, take_out, first_of}
use Rattle.atspi_tree_model.specs.Row.{ShapeRow}
use Rattle.atspi_tree_model.specs.States.{has_state}
use Rattle.atspi_tree_model.specs.Tree.{is_shape}
use Rattle.atspi_tree.specs.TreeShape.{TreeShape}
use Rattle.atspi_hit.specs.declared.rect.Rect.{Rect}
use Rattle.atspi_hit.specs.Places.{covers}

-- the state showing, by its bit
abbrev pub showing : ℕ
showing = 25

-- a node covers a point, where nodes have these rectangles
abbrev pub covers_point : (ℕ → Rect) → ℤ → ℤ → ShapeRow → Bool
covers_point rects px py row = has_state showing row.states && covers (rects row.node) px py

-- the nodes at and below a node that cover the point together with every node on the way to them, in preorder: those
-- that are left where each node that does not cover it is taken out, with all that is below it
abbrev pub reach : TreeShape → (ℕ → Rect) → ℕ → ℤ → ℤ → List ShapeRow
reach t rects from px py = labels (take_out (λ row. not (covers_point rects px py row)) (pick (is_shape from) t.rows))

-- the last element
abbrev pub last : {A : Type 0} → List A → Option A
last [] = None
last (x ∷ xs) = first_of (last xs) (Some x)

-- the last of them
abbrev pub at_point : TreeShape → (ℕ → Rect) → ℕ → ℤ → ℤ → Option ℕ
at_point t rects from px py = last (map (λ row. row.node) (reach t rects from px py))
