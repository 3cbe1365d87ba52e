use Rattle.std.proofs.Common.{arith}
use Rattle.atspi_faces.proofs.GapLemmas.{gapped_fits}
use Rattle.atspi_faces.proofs.gap.Gap.count.Goals as goal

pub overflow_add-result : goal.overflow_add-result
overflow_add-result c = omega (arith, gapped_fits _ _ _ c.self.invariant.gapped)
