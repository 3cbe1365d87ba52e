-- A whole tree, and edits of it.
use Rattle.std.specs.Prelude.{ℕ, List, Option, None, Some, Result, Ok, Err, unwrap_or}
use Rattle.atspi_tree_model.specs.declared.edit.Edit.{Edit}
use Rattle.atspi_tree_model.specs.declared.edit.EditFault.{EditFault}
use Rattle.atspi_tree_model.specs.declared.step.Step.{Step}
use Rattle.atspi_tree_model.specs.Edits.{steps_of_tree}
use Rattle.atspi_tree_model.specs.Forest.{Forest, find}
use Rattle.atspi_tree_model.specs.Row.{TreeRow}
use Rattle.atspi_tree_model.specs.RowRules.{rows}
use Rattle.atspi_tree_model.specs.Tree.{after_all, first_tree, is_node, shape_of}
use Rattle.atspi_tree.specs.TreeShape.{TreeShape}
use Rattle.atspi_app_exported.specs.Doing.{added_all}

-- the rows of a tree, and how many nodes were ever added to it, the root not counted
pub record WholeTree : Type 0 where
  pub nodes : Forest TreeRow
  pub added : ℕ

-- the same without the contents of nodes
abbrev pub shape : WholeTree → TreeShape
shape t = record { rows = shape_of t.nodes; added = t.added }

-- the root alone, with this name
abbrev pub begins : List ℕ → WholeTree
begins name = record { nodes = first_tree rows name; added = 0 }

-- the tree after the steps of an edit, or why that is refused
abbrev pub stepped : WholeTree → Result (List Step) EditFault → Result WholeTree EditFault
stepped t (Ok steps) = Ok (record { nodes = after_all rows t.nodes steps; added = added_all t.added steps })
stepped t (Err fault) = Err fault

abbrev pub edited : WholeTree → Edit → Result WholeTree EditFault
edited t edit = stepped t (steps_of_tree t.nodes t.added edit)

-- how many columns a node's table has, 0 where it has none
abbrev pub columns_in : Option TreeRow → ℕ
columns_in None = 0
columns_in (Some row) = unwrap_or row.contents.columns 0

abbrev pub columns_of : WholeTree → ℕ → ℕ
columns_of t n = columns_in (find (is_node n) t.nodes)
