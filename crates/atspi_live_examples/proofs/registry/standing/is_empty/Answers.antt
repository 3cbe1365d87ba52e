use Rattle.std.proofs.Common.{refl, ap, arith}
use Rattle.std.specs.Prelude.{length}
use Rattle.atspi_live_examples.proofs.registry.standing.is_empty.Goals as goal

pub returns-clause-none : goal.returns-clause-none
returns-clause-none c = refl

pub returns-clause-three : goal.returns-clause-three
returns-clause-three c h = omega (arith, ap (λ out. length out) h)
