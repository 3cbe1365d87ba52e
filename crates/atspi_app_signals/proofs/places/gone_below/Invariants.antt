use Rattle.std.proofs.Common.{◌≡◌, ◌++◌, map, length}
use Rattle.atspi_protocol.specs.announcing.Signals.{removed}
use Rattle.atspi_tree.specs.Seats.{seats_below}
use Rattle.atspi_app_signals.proofs.places.gone_below.Given as goal

abbrev pub invariant-loop-seat : goal.invariant-loop-seat
invariant-loop-seat l =
    l.mail ++ map (λ seat. (removed l.bus seat.node).message) l.walk ≡ l.fn.mail ++ map (λ seat. (removed l.bus seat.node).message) (seats_below l.node l.tree)

abbrev pub decreases-loop-seat : goal.decreases-loop-seat
decreases-loop-seat l = length l.walk
