-- A small tree and its faces.
use Rattle.std.specs.Prelude.{ℕ, true, false, [], ◌∷◌, codes}
use Rattle.std.specs.FinMap.{empty, insert}
use Rattle.atspi_tree_model.specs.declared.contents.Kinds.{Kinds}
use Rattle.atspi_tree_model.specs.declared.contents.FaceData.TheVariants.{Chars, Grid, Deeds}
use Rattle.atspi_tree_model.specs.Forest.{Forest, nil, tree}
use Rattle.atspi_tree_model.specs.Row.{ShapeRow}
use Rattle.atspi_protocol.specs.whole.Whole.{Faces}

-- a node of this number with these interfaces
abbrev pub shape : ℕ → Kinds → ShapeRow
shape n kinds = record { node = n; name = []; description = []; role = 0; states = 0; kinds = kinds; relations = [] }

abbrev pub plain : Kinds
plain = record { text = false; editable = false; selection = false; table = false; action = false }

-- the root, and below it a text and a table
abbrev pub small : Forest ShapeRow
small =
    tree (shape 0 plain)
    (tree (shape 1 (record plain { text = true })) nil (tree (shape 2 (record plain { table = true })) nil nil)) nil

-- the text abc with its caret at 1 and the range from 0 to 2; two columns; an action of the root
abbrev pub kept : Faces
kept = record {
  chars = insert empty 1 (Chars (codes "abc") 1 ((0, 2) ∷ []));
  grid = insert empty 2 (Grid 2);
  deeds = insert empty 0 (Deeds (codes "press" ∷ []));
}
