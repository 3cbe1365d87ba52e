-- A row of a shape, without contents: what is told of a node in an item needs no more.
use Rattle.std.specs.Prelude.{[], None}
use Rattle.atspi_tree_model.specs.Row.{ShapeRow, TreeRow}

abbrev pub bare : ShapeRow → TreeRow
bare row = record { shape = row; contents = record { text = None; columns = None; actions = [] } }
