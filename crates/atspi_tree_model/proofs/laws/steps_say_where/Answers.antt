use Rattle.atspi_tree_model.specs.RowRules.{rows, shapes}
use Rattle.atspi_tree_model.proofs.RowRules.{rows_sound, shapes_sound}
use Rattle.atspi_tree_model.proofs.Seats.{seat_of_added, seat_of_moved}
use Rattle.atspi_tree_model.proofs.laws.steps_say_where.Goals as goal

pub returns : goal.returns
returns c = record {
  added = seat_of_added rows rows_sound;
  moved = seat_of_moved rows rows_sound;
  shape_added = seat_of_added shapes shapes_sound;
  shape_moved = seat_of_moved shapes shapes_sound;
}
