-- A room: in the root a panel, in that two buttons, of which the second lies over the first, and below the first a mark
-- that lies outside of it.
use Rattle.std.specs.Prelude.{ℕ, ℤ, pos, ◌==◌, false, cond, []}
use Rattle.atspi_tree_model.specs.declared.contents.Kinds.{Kinds}
use Rattle.atspi_tree_model.specs.Forest.{nil, tree}
use Rattle.atspi_tree_model.specs.Row.{ShapeRow}
use Rattle.atspi_tree.specs.TreeShape.{TreeShape}
use Rattle.atspi_hit.specs.declared.rect.Rect.{Rect}
use Rattle.atspi_hit.specs.Places.{no_rect}

abbrev pub plain : Kinds
plain = record { text = false; editable = false; selection = false; table = false; action = false }

-- the states of a new node, and the same without showing, which is bit 25
abbrev pub shown : ℕ
shown = 1124073728

abbrev pub hidden : ℕ
hidden = 1090519296

abbrev pub node : ℕ → ℕ → ShapeRow
node n states = record {
  node = n;
  name = [];
  description = [];
  role = 39;
  states = states;
  kinds = plain;
  relations = [];
}

-- the room, with these states of the panel and of the second button
abbrev pub room_with : ℕ → ℕ → TreeShape
room_with panel button = record {
  rows =
      tree (node 0 shown)
      (tree (node 1 panel)
      (tree (node 2 shown) (tree (node 4 shown) nil nil) (tree (node 3 button) nil nil)) nil) nil;
  added = 4;
}

abbrev pub room : TreeShape
room = room_with shown shown

abbrev pub rect : ℤ → ℤ → ℕ → ℕ → Rect
rect x y w h = record { x = x; y = y; w = w; h = h }

-- where its nodes stand
abbrev pub places : ℕ → Rect
places n =
    cond (n == 0) (rect (pos 0) (pos 0) 100 100)
    (cond (n == 1) (rect (pos 10) (pos 10) 50 50)
    (cond (n == 2) (rect (pos 10) (pos 10) 30 30)
    (cond (n == 3) (rect (pos 20) (pos 20) 30 30) (cond (n == 4) (rect (pos 80) (pos 80) 5 5) no_rect))))
