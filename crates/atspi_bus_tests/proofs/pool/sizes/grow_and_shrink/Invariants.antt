use Rattle.atspi_bus_tests.specs.Kept.{KeepsChains}
use Rattle.atspi_bus_tests.proofs.pool.sizes.grow_and_shrink.Given as goal

abbrev pub invariant-loop-i : goal.invariant-loop-i
invariant-loop-i g l = KeepsChains l.fn.pool l.pool
