use Rattle.std.proofs.Common.{◌≡◌, ℕ, List}
use Rattle.atspi_pool.specs.Store.{Store}
use Rattle.atspi_pool.specs.Pool.{in_use}
use Rattle.atspi_bus_tests.specs.Kept.{AllUsed}
use Rattle.atspi_bus_tests.proofs.pool.sizes.opened.Given as goal

pub record AreOpened (pool : Store) (numbers : List ℕ) (count : ℕ) : Type 0 where
  pub used : AllUsed pool numbers
  pub counted : in_use pool.chains ≡ count

abbrev pub invariant-loop : goal.invariant-loop
invariant-loop g l = AreOpened l.pool l.numbers.items l.counter
