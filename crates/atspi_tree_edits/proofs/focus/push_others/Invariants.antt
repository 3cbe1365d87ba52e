use Rattle.std.proofs.Common.{◌≡◌, ◌++◌, ◌-◌, ◌^◌}
use Rattle.atspi_tree_edits.specs.inner.Switches.{unfocusing}
use Rattle.atspi_tree_edits.proofs.Switched.{below}
use Rattle.atspi_tree_edits.proofs.focus.push_others.Given as goal

abbrev pub invariant-loop-other : goal.invariant-loop-other
invariant-loop-other l = l.steps ≡ l.initial.steps ++ unfocusing l.tree.rows l.node (below l.from)

abbrev pub decreases-loop-other : goal.decreases-loop-other
decreases-loop-other l = 2 ^ 32 - l.from
