use Rattle.std.proofs.Common.{refl}
use Rattle.std.specs.FinMap.{gets}
use Rattle.atspi_trace_examples.proofs.trace.carrying.delivered.Goals as goal

pub returns-clause-more : goal.returns-clause-more
returns-clause-more c = simp gets refl

pub returns-clause-as_many : goal.returns-clause-as_many
returns-clause-as_many c = simp gets refl

pub returns-clause-other : goal.returns-clause-other
returns-clause-other c = simp gets refl

pub returns-clause-room : goal.returns-clause-room
returns-clause-room c = simp gets refl
