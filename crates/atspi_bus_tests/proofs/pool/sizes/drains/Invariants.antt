use Rattle.atspi_bus_tests.specs.Kept.{KeepsChains}
use Rattle.atspi_bus_tests.proofs.pool.sizes.drains.Given as goal

abbrev pub invariant-loop : goal.invariant-loop
invariant-loop g l = KeepsChains l.fn.pool l.pool
