use Rattle.std.proofs.Common.{◌≡◌, ℕ, List, length}
use Rattle.atspi_message.specs.Envelope.{Envelope}
use Rattle.atspi_live_bus.specs.Turns.{Converses}
use Rattle.atspi_live_bus.proofs.link.Link.say_lines.Given as goal

abbrev pub invariant-lines : goal.invariant-lines
invariant-lines l = record {
  talks : (took : List Envelope) (handed t g : List ℕ) → Converses took handed l.fn.self t g → Converses took handed l.self t g;
  number : l.self.number ≡ l.fn.self.number;
  conn : l.self.conn ≡ l.fn.self.conn;
}

abbrev pub decreases-lines : goal.decreases-lines
decreases-lines l = length l.self.server.unsent
