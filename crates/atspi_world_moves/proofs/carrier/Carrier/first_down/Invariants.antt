use Rattle.std.proofs.Common.{◌≡◌, ◌≤◌, drop, length, min}
use Rattle.atspi_bus_steps.specs.InnerBus.{inner_of}
use Rattle.atspi_world_moves.specs.Waits.{first_down}
use Rattle.atspi_world_moves.proofs.carrier.Carrier.first_down.Given as goal

-- none was found up to here
abbrev pub invariant-loop-post : goal.invariant-loop-post
invariant-loop-post l = record {
  number : l.conn ≡ min l.post-index 4294967295;
  none : length l.self.posts.items ≤ 4294967296
      → first_down (inner_of l.self.bus) l.self.at_end.items 0 l.self.posts.items ≡ first_down (inner_of l.self.bus) l.self.at_end.items l.post-index (drop l.post-index l.self.posts.items);
}
