use Rattle.std.proofs.Common.{◌<◌, arith, lit<}
use Rattle.atspi_live_examples.proofs.reader.afters.spent_readers.Goals as goal

pub returns-clause-asks : goal.returns-clause-asks
returns-clause-asks c = lit< tt

pub returns-clause-asks_last : goal.returns-clause-asks_last
returns-clause-asks_last c h = by h
  where
    by : 4294967296 < 4294967296 → ⊥
    by h = omega (arith, h)

pub returns-clause-asks_nothing : goal.returns-clause-asks_nothing
returns-clause-asks_nothing c h = by h
  where
    by : 4294967296 < 4294967296 → ⊥
    by h = omega (arith, h)
