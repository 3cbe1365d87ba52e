use Rattle.std.proofs.Common.{refl, ap}
use Rattle.std.specs.Prelude.{◌==◌}
use Rattle.atspi_trace_laws.proofs.OfOrder.Parties.{false_true}
use Rattle.atspi_trace_examples.proofs.missed.what_is_missed.Goals as goal

pub returns-clause-mine : goal.returns-clause-mine
returns-clause-mine c h = h refl refl

pub returns-clause-other : goal.returns-clause-other
returns-clause-other c same = absurd (false_true (ap (λ n. n == 0) same))
