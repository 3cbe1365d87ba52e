use Rattle.std.proofs.Common.{length}
use Rattle.atspi_app_known.specs.happenings.View.{happened}
use Rattle.atspi_app.proofs.Unnumbered.{IsPushing}
use Rattle.atspi_app.proofs.telling.push_all.Given as goal

abbrev pub invariant-loop-numbered : goal.invariant-loop-numbered
invariant-loop-numbered l = IsPushing (happened l.told) l.queue.out (happened l.fn.told) l.fn.mail

abbrev pub decreases-loop-numbered : goal.decreases-loop-numbered
decreases-loop-numbered l = length l.queue.out
