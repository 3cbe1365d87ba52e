use Rattle.std.proofs.Common.{◌+◌, ◌≤◌}
use Rattle.atspi_bus_steps.specs.InnerBus.{inner_of, state_of}
use Rattle.atspi_bus_steps.specs.Sound.{IsSound}
use Rattle.atspi_trace.specs.World.{World}
use Rattle.atspi_world_moves.specs.Carried.{IsCarried}
use Rattle.atspi_world_moves.specs.Moving.{MovesAt}
use Rattle.atspi_world_moves.proofs.Rounds.{Continues}
use Rattle.atspi_world_moves.proofs.carrier.Carrier.move_up_apart.Given as goal

-- each round moved a byte at least
abbrev pub invariant-loop-message : goal.invariant-loop-message
invariant-loop-message l = record {
  sound : IsSound (state_of l.self.bus);
  moved : (w : World) → IsCarried w (inner_of l.initial.self.bus) l.initial.self.posts.items → MovesAt l.initial.self.posts.items l.conn
      → Continues w l.conn l.most l.left (inner_of l.self.bus) l.self.posts.items l.initial.self.at_end.items l.self.at_end.items l.initial.self.trace.items l.self.trace.items × (l.left + l._message ≤ l.most);
}
