use Rattle.atspi_bus_tests.specs.Kept.{KeepsChains}
use Rattle.atspi_bus_tests.proofs.pool.sizes.empty.Given as goal

abbrev pub invariant-loop-number : goal.invariant-loop-number
invariant-loop-number g l = KeepsChains l.fn.pool l.pool
