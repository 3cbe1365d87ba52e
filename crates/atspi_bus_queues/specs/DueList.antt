-- The list of those that are to be closed, and beside it the set of them.
use Rattle.std.specs.Prelude.{◌≡◌, ℕ, List}
use Rattle.std.specs.Ordering.{nat_cmp}
use Rattle.std.specs.BTreeSet as set
use Rattle.std.specs.BTreeSet.{BTreeSet}
use Rattle.atspi_match.specs.declared.routing.closing.Why.{Why}
use Rattle.atspi_match.specs.routing.Queues.{is_due}
use Rattle.atspi_bus_queues.specs.Once.{AreOnce}

pub record IsDueList (due : List (ℕ × Why)) (conns : BTreeSet ℕ) : Type 0 where
  pub mirrored : (q : ℕ) → set.contains nat_cmp conns q ≡ is_due q due
  pub once : AreOnce due
