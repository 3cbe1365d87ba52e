use Rattle.std.proofs.Common.{◌≡◌, ℕ}
use Rattle.atspi_bus_steps.specs.InnerBus.{inner_of, state_of}
use Rattle.atspi_bus_steps.specs.Sound.{IsSound}
use Rattle.atspi_world_moves.specs.Filled.{gave}
use Rattle.atspi_world.proofs.Hearing.{Hears}
use Rattle.atspi_world.proofs.starting.hear_all.Given as goal

-- some of what waited is gone, and nothing else changed
abbrev pub invariant-loop-message : goal.invariant-loop-message
invariant-loop-message l = record {
  sound : IsSound (state_of l.carrier.bus);
  posts : l.carrier.posts ≡ l.initial.carrier.posts;
  trace : l.carrier.trace ≡ l.initial.carrier.trace;
  hears : Hears (inner_of l.initial.carrier.bus) (inner_of l.carrier.bus) l.initial.carrier.posts.items l.carrier.posts.items l.initial.carrier.at_end.items l.carrier.at_end.items l.conn l.initial.registry l.registry;
  gone : (count : ℕ) × (inner_of l.carrier.bus ≡ gave (inner_of l.initial.carrier.bus) l.conn count);
}
