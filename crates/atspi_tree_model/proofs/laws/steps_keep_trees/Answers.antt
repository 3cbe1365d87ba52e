use Rattle.atspi_tree_model.specs.RowRules.{rows, shapes}
use Rattle.atspi_tree_model.proofs.RowRules.{rows_sound, shapes_sound}
use Rattle.atspi_tree_model.proofs.Begins.{rows_begin, shapes_begin}
use Rattle.atspi_tree_model.proofs.Kept.{after_is_tree}
use Rattle.atspi_tree_model.proofs.laws.steps_keep_trees.Goals as goal

pub returns : goal.returns
returns c = record {
  begins = rows_begin;
  kept = after_is_tree rows rows_sound;
  shape_begins = shapes_begin;
  shape_kept = after_is_tree shapes shapes_sound;
}
