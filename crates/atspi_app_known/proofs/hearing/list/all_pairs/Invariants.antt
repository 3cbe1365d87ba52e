use Rattle.std.proofs.Common.{◌≡◌}
use Rattle.atspi_types.specs.Data.{items_of}
use Rattle.atspi_marshal_in_place.specs.Items.{elements_data}
use Rattle.atspi_protocol.specs.exporting.Hearing.{all_pairs}
use Rattle.atspi_app_known.specs.hearing.Lent.{lent_pairs}
use Rattle.atspi_app_known.proofs.OfHearing.Values.{behind}
use Rattle.atspi_app_known.proofs.hearing.list.all_pairs.Given as goal

abbrev pub invariant-loop-item : goal.invariant-loop-item
invariant-loop-item l = all_pairs (items_of (elements_data l.elements)) ≡ behind (lent_pairs l.pairs.items) (all_pairs (items_of (elements_data l.rest)))

abbrev pub decreases-loop-item : goal.decreases-loop-item
decreases-loop-item l = l.rest.left
