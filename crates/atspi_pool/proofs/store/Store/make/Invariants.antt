use Rattle.std.proofs.Common.{◌≡◌, ◌+◌, ℕ, List, max}
use Rattle.atspi_pool.specs.Store.{Store, all_blocks, with_pushed}
use Rattle.atspi_pool.proofs.store.Store.make.Given as goal

-- so many blocks were made, and no chain has changed
pub record IsMaking (was now : Store) (chain : ℕ) (bytes : List ℕ) (missing made : ℕ) : Type 0 where
  pub chains : now.chains ≡ was.chains
  pub made_so_far : now.made ≡ was.made + made
  pub missing_is : was.made + missing ≡ max was.made (all_blocks (with_pushed was chain bytes).chains)

abbrev pub invariant-loop : goal.invariant-loop
invariant-loop l = IsMaking l.fn.self l.self l.chain l.bytes l.missing l.counter
