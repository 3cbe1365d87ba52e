-- The queues of a bus with their quota.
use Rattle.std.specs.Prelude.{◌≤◌, ℕ, List, [], refl}
use Rattle.std.specs.Coded.{Coded, code_by, coded×, coded_ℕ, coded_list}
use Rattle.std.specs.FinMap as finmap
use Rattle.std.specs.FinMap.{FinMap}
use Rattle.std.specs.Ordering.{nat_cmp}
use Rattle.atspi_match.specs.contracts.routing.closing.Why as why
use Rattle.atspi_match.specs.declared.routing.closing.Why.{Why}
use Rattle.atspi_match.specs.routing.Laws.{AreWithin}
use Rattle.atspi_match.specs.routing.Queues.{Waiting}

pub record Held : Type 0 where
  pub quota : ℕ
  pub waiting : Waiting

-- what holds of queues at any time: their quota is at most 64 MiB, and each is within it
pub record AreHeld (quota : ℕ) (queues : FinMap nat_cmp (List ℕ)) : Type 0 where
  pub few : quota ≤ 67108864
  pub within : AreWithin quota queues

-- nothing waits, and nobody is to be closed
abbrev pub no_queues : Waiting
no_queues = record { queues = finmap.empty; due = [] }

-- they are stored as the tuple of their parts
abbrev pub held_code : Coded Held
held_code =
    code_by (ℕ × (FinMap nat_cmp (List ℕ) × List (ℕ × Why)))
    (coded× coded_ℕ (coded× (finmap.code coded_ℕ (coded_list coded_ℕ)) (coded_list (coded× coded_ℕ why.the_row.coded))))
    (λ h. (h.quota, (h.waiting.queues, h.waiting.due)))
    (λ t. record { quota = t.0; waiting = record { queues = t.1.0; due = t.1.1 } }) (λ _. refl)
