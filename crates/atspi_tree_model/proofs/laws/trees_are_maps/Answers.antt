use Rattle.atspi_tree_model.specs.RowRules.{rows, shapes}
use Rattle.atspi_tree_model.proofs.Maps.{tree_is_map, maps_tell_trees}
use Rattle.atspi_tree_model.proofs.MapsGrow.{map_is_tree}
use Rattle.atspi_tree_model.proofs.laws.trees_are_maps.Goals as goal

pub returns : goal.returns
returns c = record {
  rows = tree_is_map rows;
  shapes = tree_is_map shapes;
  rows_told = maps_tell_trees rows;
  shapes_told = maps_tell_trees shapes;
  rows_grown = map_is_tree rows;
  shapes_grown = map_is_tree shapes;
}
