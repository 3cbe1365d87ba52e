use Rattle.std.proofs.Common.{◌≡◌, ◌++◌, map, length}
use Rattle.atspi_types.specs.DataView.{all_data}
use Rattle.atspi_tree_model.specs.Row.{Each}
use Rattle.atspi_protocol.specs.objects.Values.{item_data}
use Rattle.atspi_tree.specs.Seats.{seats_in}
use Rattle.atspi_app_items.specs.inner.Seated.{seats_items}
use Rattle.atspi_app_items.proofs.Walked.{IsPlace}
use Rattle.atspi_app_items.proofs.all.item_values.Given as goal

abbrev pub invariant-loop-seat : goal.invariant-loop-seat
invariant-loop-seat l = record {
  told : all_data l.all ++ map item_data (seats_items l.bus l.tree l.walk) ≡ map item_data (seats_items l.bus l.tree (seats_in l.tree));
  there : Each (IsPlace l.tree) l.walk;
}

abbrev pub decreases-loop-seat : goal.decreases-loop-seat
decreases-loop-seat l = length l.walk
