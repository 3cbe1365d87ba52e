use Rattle.std.proofs.Common.{ℕ, List}
use Rattle.atspi_live_conversation.specs.Talking.{MaySpeak, Says}
use Rattle.atspi_live_conversation.proofs.speaking.say.Given as goal

abbrev pub invariant-messages : goal.invariant-messages
invariant-messages g l =
    record {
      says : (aside : List ℕ) → Says (g.E.BusEnd.Stands aside) l.fn.end l.end l.fn.unsent l.unsent;
      may : MaySpeak g.E.BusEnd.Stands l.end;
    }

abbrev pub decreases-messages : goal.decreases-messages
decreases-messages g l = g.E.BusEnd.queued l.end
