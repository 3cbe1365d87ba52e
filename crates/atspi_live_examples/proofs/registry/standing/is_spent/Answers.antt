use Rattle.std.proofs.Common.{◌<◌, arith, lit<}
use Rattle.atspi_live_examples.proofs.registry.standing.is_spent.Goals as goal

pub returns-clause-spent : goal.returns-clause-spent
returns-clause-spent c = lit< tt

pub returns-clause-last : goal.returns-clause-last
returns-clause-last c h = by h
  where
    by : 4294967296 < 4294967296 → ⊥
    by h = omega (arith, h)

pub returns-clause-silent : goal.returns-clause-silent
unfolding lib.Utf8.encode
returns-clause-silent c h = by h
  where
    by : 4294967296 < 4294967296 → ⊥
    by h = omega (arith, h)
