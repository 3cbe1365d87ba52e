use Rattle.std.proofs.Common.{◌-◌, ◌≤◌}
use Rattle.atspi_app_contents.proofs.texts.pieces.piece_ends.Given as goal

abbrev pub invariant-loop-reach : goal.invariant-loop-reach
invariant-loop-reach g l = 1 ≤ l.reach

abbrev pub decreases-loop-reach : goal.decreases-loop-reach
decreases-loop-reach g l = l.count - l.reach
