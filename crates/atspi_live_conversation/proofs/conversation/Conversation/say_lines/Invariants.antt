use Rattle.std.proofs.Common.{◌≡◌, ◌++◌, length}
use Rattle.atspi_live_conversation.specs.Speech.{line_bytes}
use Rattle.atspi_live_conversation.proofs.conversation.Conversation.say_lines.Given as goal

abbrev pub invariant-lines : goal.invariant-lines
invariant-lines l =
    record {
      said : l.self.unsent ++ line_bytes l.self.client.unsent ≡ l.fn.self.unsent ++ line_bytes l.fn.self.client.unsent;
      stage : l.self.client.stage ≡ l.fn.self.client.stage;
      line : l.self.client.line ≡ l.fn.self.client.line;
      feeder : l.self.feeder ≡ l.fn.self.feeder;
      heard : l.self.heard ≡ l.fn.self.heard;
    }

abbrev pub decreases-lines : goal.decreases-lines
decreases-lines l = length l.self.client.unsent
