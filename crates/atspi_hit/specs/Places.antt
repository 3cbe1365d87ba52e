-- Where nodes stand on the screen (AT-SPI2's interface file Component: extents are x, y, width and height).
use Rattle.std.specs.Prelude.{ℕ, ℤ, pos, ◌+ℤ◌, Bool, ◌&&◌, not, int_le, int_lt, unwrap_or}
use Rattle.std.specs.Ordering.{nat_cmp}
use Rattle.std.specs.FinMap.{FinMap, get, retain_keys}
use Rattle.atspi_tree_model.specs.RowRules.{shapes}
use Rattle.atspi_tree_model.specs.Tree.{in_subtree}
use Rattle.atspi_tree.specs.TreeShape.{TreeShape}
use Rattle.atspi_hit.specs.declared.rect.Rect.{Rect}

-- the rectangle of each node that is placed
abbrev pub Places : Type 0
Places = FinMap nat_cmp Rect

-- that of a node which is not
abbrev pub no_rect : Rect
no_rect = record { x = pos 0; y = pos 0; w = 0; h = 0 }

-- the rectangle of a node
abbrev pub rect_at : Places → ℕ → Rect
rect_at places n = unwrap_or (get places n) no_rect

-- the number p is among so many from the first on
abbrev pub is_among : ℤ → ℕ → ℤ → Bool
is_among first count p = int_le first p && int_lt p (first +ℤ pos count)

-- a point is in a rectangle
abbrev pub covers : Rect → ℤ → ℤ → Bool
covers rect px py = is_among rect.x rect.w px && is_among rect.y rect.h py

-- without the rectangles of a node and of all that is below it
abbrev pub without_subtree : TreeShape → ℕ → Places → Places
without_subtree t n places = retain_keys places (λ m. not (in_subtree shapes n t.rows m))
