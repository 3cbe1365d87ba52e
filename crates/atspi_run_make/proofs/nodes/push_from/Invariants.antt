use Rattle.std.proofs.Common.{◌≡◌, ◌≤◌, ◌++◌, ◌-◌, ◌^◌}
use Rattle.atspi_run_make.proofs.LiveLemmas.{found_to}
use Rattle.atspi_run_make.proofs.nodes.push_from.Given as goal

abbrev pub invariant-loop-node : goal.invariant-loop-node
invariant-loop-node l = record {
  beyond : l.first ≤ l.from;
  found : l.nodes.items ≡ l.initial.nodes.items ++ found_to l.first l.tree l.from;
}

abbrev pub decreases-loop-node : goal.decreases-loop-node
decreases-loop-node l = 2 ^ 32 - l.from
