use Rattle.std.proofs.Common.{ℕ, List, length}
use Rattle.atspi_live_conversation.specs.Talking.{Attends, MaySpeak}
use Rattle.atspi_live_conversation.proofs.attending.attend.Given as goal

abbrev pub invariant-messages : goal.invariant-messages
invariant-messages g l =
    record {
      attends : (aside : List ℕ) → Attends (g.E.BusEnd.Stands aside) l.fn.feeder l.feeder l.fn.end l.end;
      may : MaySpeak g.E.BusEnd.Stands l.end;
    }

abbrev pub decreases-messages : goal.decreases-messages
decreases-messages g l = length l.feeder
