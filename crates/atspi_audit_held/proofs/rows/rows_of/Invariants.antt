use Rattle.std.proofs.Common.{◌≡◌, ◌++◌, length}
use Rattle.atspi_tree_model.specs.Row.{Each}
use Rattle.atspi_tree.specs.Seats.{seats_in}
use Rattle.atspi_app_items.proofs.Walked.{IsPlace}
use Rattle.atspi_whole_tree.specs.Whole.{shape_in}
use Rattle.atspi_audit_held.specs.Held.{told_by}
use Rattle.atspi_audit_held.specs.inner.Rows.{place_rows}
use Rattle.atspi_audit_held.proofs.rows.rows_of.Given as goal

abbrev pub invariant-loop-seat : goal.invariant-loop-seat
invariant-loop-seat l = record {
  shown : l.rows.items ++ place_rows (told_by l.told.entries) l.tree l.walk ≡ place_rows (told_by l.told.entries) l.tree (seats_in (shape_in l.tree));
  there : Each (IsPlace (shape_in l.tree)) l.walk;
}

abbrev pub decreases-loop-seat : goal.decreases-loop-seat
decreases-loop-seat l = length l.walk
