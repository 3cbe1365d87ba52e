use Rattle.std.proofs.Common.{arith}
use Rattle.std.proofs.lemmas.Str.{IsUtf8-string_bytes}
use Rattle.atspi_base.proofs.PlaceLemmas.{count_fits}
use Rattle.atspi_faces.proofs.run.Run.count.Goals as goal

pub overflow_add-result : goal.overflow_add-result
overflow_add-result c = omega (arith, count_fits _ _ (IsUtf8-string_bytes c.self.inside.string) c.self.invariant.counted)
