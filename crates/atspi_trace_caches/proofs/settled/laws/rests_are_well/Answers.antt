use Rattle.atspi_trace_caches.proofs.OfSettled.Settling_rests.{rests}
use Rattle.atspi_trace_caches.proofs.settled.laws.rests_are_well.Goals as goal

pub returns : goal.returns
returns c = λ lines trace can begun nodes none waits found asks. rests lines trace can begun none nodes waits found asks
