use Rattle.atspi_bus_tests.specs.Kept.{AllUsed}
use Rattle.atspi_bus_tests.proofs.pool.sizes.a_thousand_chains.Given as goal

abbrev pub invariant-loop-round : goal.invariant-loop-round
invariant-loop-round g l = AllUsed l.pool l.numbers.items
