use Rattle.std.proofs.Common.{refl}
use Rattle.atspi_app.proofs.Unnumbered.{pushing_starts, pushing_goes_on}
use Rattle.atspi_app.proofs.telling.push_all.Goals as goal

pub loop-numbered-init : goal.loop-numbered-init
loop-numbered-init c = pushing_starts _ _ c.new-queue.result _ c.requires c.new-queue.ensures.next c.new-queue.ensures.out c.in-Ok.ensures.ok

pub loop-numbered-preserved : goal.loop-numbered-preserved
loop-numbered-preserved c = pushing_goes_on _ _ _ _ _ _ _ _ c.loop-numbered.invariant c.in-Some.ensures.front refl c.in_ok-push_message.ensures.ok
