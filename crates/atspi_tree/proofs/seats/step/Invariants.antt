use Rattle.std.proofs.Common.{length}
use Rattle.atspi_tree.proofs.Walks.{IsStepping}
use Rattle.atspi_tree.proofs.seats.step.Given as goal

-- the levels that are left give the same
abbrev pub invariant-loop-node : goal.invariant-loop-node
invariant-loop-node l = IsStepping l.tree l.initial.levels l.levels

abbrev pub decreases-loop-node : goal.decreases-loop-node
decreases-loop-node l = length l.levels
