-- What is read in an application as it is seen.
use Rattle.std.specs.Prelude.{◌≡◌, true, Result, Ok, Err}
use Rattle.atspi_tree_model.specs.Tree.{shape_of}
use Rattle.atspi_tree_model.specs.declared.edit.EditFault.{EditFault}
use Rattle.atspi_tree.specs.TreeShape.{TreeShape}
use Rattle.atspi_protocol.specs.exporting.Exporter.{Exporter}
use Rattle.atspi_protocol.specs.exporting.Taking.{is_spent}

-- the shape of the tree that it exports
abbrev pub shape_seen : Exporter → TreeShape
shape_seen s = record { rows = shape_of s.tree; added = s.added }

-- an edit is not refused, and a message would have a number behind the last one
abbrev pub IsSpentAfter : Result Exporter EditFault → Type 0
IsSpentAfter (Ok s) = is_spent s ≡ true
IsSpentAfter (Err fault) = ⊥
