-- The tables of a whole tree, as its parts.
use Rattle.atspi_tree_model.specs.declared.contents.FaceKind.TheVariants.{Chars, Grid, Deeds}
use Rattle.atspi_tree_model.specs.declared.step.Step.{Step}
use Rattle.atspi_tree_model.specs.RowRules.{rows}
use Rattle.atspi_tree_model.specs.Tree.{Applies}
use Rattle.atspi_faces.specs.Kept.{nodes_of}
use Rattle.atspi_faces.specs.Gapped.{gap_data}
use Rattle.atspi_faces.specs.Columns.{columns_data}
use Rattle.atspi_faces.specs.Actions.{actions_data}
use Rattle.atspi_app_exported.specs.Parts.{Kinds, Parts, IsExported, faces_of, kinds_of, parts, whole_of}
use Rattle.atspi_whole_tree.specs.Whole.{AppTree}
use Rattle.atspi_whole_tree.specs.declared.held.Held.{Held}

-- the first table keeps texts, the second columns, the third actions
abbrev pub own_kinds : Kinds
own_kinds = kinds_of Chars Grid Deeds

abbrev pub parts_of : Held → Parts
parts_of h =
    parts h.tree
    (faces_of (nodes_of gap_data h.chars.nodes.entries) (nodes_of columns_data h.grid.nodes.entries)
    (nodes_of actions_data h.deeds.nodes.entries))

-- the tree that they make
abbrev pub app_tree_of : Parts → AppTree
app_tree_of p = record { forest = whole_of p; added = p.tree.added }

-- a step can be done to them
pub record CanDoStep (p : Parts) (step : Step) : Type 0 where
  pub exported : IsExported own_kinds p
  pub applies : Applies rows (whole_of p) p.tree.added step
