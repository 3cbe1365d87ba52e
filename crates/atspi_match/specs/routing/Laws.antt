-- What holds of routing at any time.
use Rattle.std.specs.Prelude.{◌≤◌, ℕ, List, length, Option}
use Rattle.std.specs.Bool.{Decides}
use Rattle.std.specs.FinMap.{FinMap}
use Rattle.std.specs.Ordering.{nat_cmp}
use Rattle.atspi_message.specs.Envelope.{Envelope}
use Rattle.atspi_names.specs.Owners.{Owners}
use Rattle.atspi_match.specs.declared.condition.Condition.{Condition}
use Rattle.atspi_match.specs.Matching.{Matches}
use Rattle.atspi_match.specs.routing.Routing.{matches}
use Rattle.atspi_match.specs.routing.Queues.{Bus, queue_of, empty_bus, joins, takes, leaves}

-- each queue is at most the quota
abbrev pub AreWithin : ℕ → FinMap nat_cmp (List ℕ) → Type 0
AreWithin quota queues = (conn : ℕ) → length (queue_of queues conn) ≤ quota

abbrev pub IsWithinQuota : Bus → Type 0
IsWithinQuota b = AreWithin b.quota b.waiting.queues

-- it is so of a new bus, and stays so
pub record QueuesStayWithin : Type 0 where
  pub new : (quota : ℕ) → IsWithinQuota (empty_bus quota)
  pub joined : (b : Bus) (conn : ℕ) → IsWithinQuota b → IsWithinQuota (joins b conn)
  pub taken : (b : Bus) (conn : ℕ) (e : Envelope) (rule : Option (List Condition)) → IsWithinQuota b
      → IsWithinQuota (takes b conn e rule)
  pub left : (b : Bus) (conn : ℕ) → IsWithinQuota b → IsWithinQuota (leaves b conn)

-- the test of a rule decides whether it matches
abbrev pub TestsDecide : Type 0
TestsDecide = (e : Envelope) (owners : Owners) (rule : List Condition)
    → Decides (matches e owners rule) (Matches rule e owners)
