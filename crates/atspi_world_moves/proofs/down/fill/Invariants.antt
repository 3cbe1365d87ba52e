use Rattle.std.proofs.Common.{◌≡◌, ◌≤◌, ◌+◌, ◌-◌, ◌++◌, ℕ, List}
use Rattle.atspi_match.specs.routing.Queues.{Bus}
use Rattle.atspi_bus_steps.specs.InnerBus.{inner_of, state_of}
use Rattle.atspi_world_moves.specs.Filled.{waits_for, IsGiven, KeepsWithin}
use Rattle.atspi_world_moves.proofs.down.fill.Given as goal

-- what is given from here on completes what was given so far
abbrev pub invariant-pieces : goal.invariant-pieces
invariant-pieces l = record {
  state : state_of l.bus ≡ state_of l.initial.bus;
  left : l.left ≤ l.most;
  within : KeepsWithin l.initial.at_end (waits_for (inner_of l.initial.bus) l.conn) l.at_end;
  whole : l.at_end ++ waits_for (inner_of l.bus) l.conn ≡ l.initial.at_end ++ waits_for (inner_of l.initial.bus) l.conn;
  rest : (n : ℕ) (bus : Bus) (given : List ℕ) → IsGiven (inner_of l.bus) bus l.at_end given l.conn n → IsGiven (inner_of l.initial.bus) bus l.initial.at_end given l.conn (l.most - l.left + n);
}

abbrev pub decreases-pieces : goal.decreases-pieces
decreases-pieces l = l.left
