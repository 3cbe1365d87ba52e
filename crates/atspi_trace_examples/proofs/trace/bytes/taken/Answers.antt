use Rattle.std.proofs.Common.{refl}
use Rattle.std.specs.FinMap.{gets}
use Rattle.atspi_trace_examples.proofs.trace.bytes.taken.Goals as goal

pub returns-clause-queue : goal.returns-clause-queue
returns-clause-queue c = simp gets refl

pub returns-clause-other_queue : goal.returns-clause-other_queue
returns-clause-other_queue c = simp gets refl
