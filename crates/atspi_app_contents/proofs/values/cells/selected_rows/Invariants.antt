use Rattle.std.proofs.Common.{◌≡◌, map}
use Rattle.std.specs.Prelude.{filter}
use Rattle.atspi_types.specs.DataView.{all_data}
use Rattle.atspi_tree_edits.proofs.Switched.{below}
use Rattle.atspi_protocol.specs.objects.Values.{count_data}
use Rattle.atspi_app_contents.specs.values.Numbers.{is_selected_row}
use Rattle.atspi_app_contents.proofs.values.cells.selected_rows.Given as goal

abbrev pub invariant-loop-row : goal.invariant-loop-row
invariant-loop-row l = all_data l.rows ≡ map count_data (filter (is_selected_row l.tree.rows l.nodes l.columns) (below l.row))
