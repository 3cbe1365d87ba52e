-- A room, made by lines: in the root a table of two columns with five children.
use Rattle.std.specs.Prelude.{ℕ, ℤ, false, List, [], ◌∷◌, Option, None, Some, codes}
use Rattle.atspi_tree_model.specs.declared.edit.Edit.TheVariants.{Insert, Relate}
use Rattle.atspi_tree_model.specs.declared.step.Seed.{Seed}
use Rattle.atspi_hit.specs.declared.rect.Rect.{Rect}
use Rattle.atspi_run_hit.specs.declared.line.HitLine.{HitLine}
use Rattle.atspi_run_hit.specs.declared.line.HitLine.TheVariants.{App, Edit}
use Rattle.atspi_run_hit.specs.Wholes as wholes
use Rattle.atspi_run_hit.specs.Wholes.{WholeTree}
use Rattle.atspi_run_hit.specs.Scene.{Scene, after}

-- a new panel without a name, a new table
abbrev pub panel : Seed
panel = record {
  role = 39;
  name = [];
  text = None;
  editable = false;
  columns = None;
  select = false;
  actions = [];
}

abbrev pub table : Seed
table = record panel { columns = Some 2 }

abbrev pub rect : ℤ → ℤ → ℕ → ℕ → Rect
rect x y w h = record { x = x; y = y; w = w; h = h }

-- what lines make that are not refused
abbrev pub after_lines : Option Scene → List HitLine → Option Scene
after_lines s [] = s
after_lines s (line ∷ lines) = after_lines (after s line) lines

-- the room
abbrev pub room_lines : List HitLine
room_lines =
    App (codes "T") ∷ Edit (Insert 0 0 table) ∷ Edit (Insert 1 0 panel) ∷ Edit (Insert 1 1 panel)
    ∷ Edit (Insert 1 2 panel) ∷ Edit (Insert 1 3 panel) ∷ Edit (Insert 1 4 panel) ∷ []

abbrev pub room : Option Scene
room = after_lines None room_lines

-- the same with a relation of kind 2 from the table to its second child
abbrev pub related : Option Scene
related = after room (Edit (Relate 1 2 3))

-- the tree of what lines have made, and of nothing the root alone
abbrev pub tree_in : Option Scene → WholeTree
tree_in None = wholes.begins []
tree_in (Some s) = s.tree
