-- A new bus is sound.
use Rattle.std.proofs.Common.{◌≡◌, ℕ, [], sym, ap, subst, arith, rules, lit<, lit≤}
use Rattle.std.specs.Prelude.{unwrap_or}
use Rattle.std.specs.FinMap.{get-empty}
use Rattle.std.specs.Ordering.{nat_cmp}
use Rattle.std.specs.Cmp.Lexicographic.{slice_cmp}
use Rattle.atspi_match.specs.routing.BusState as states
use Rattle.atspi_match.specs.routing.Queues.{Bus, empty_bus}
use Rattle.atspi_bus_steps.specs.Sound.{IsSound}

-- a bus to which nobody has joined
pub sound-begins : IsSound states.begins
sound-begins = record {
  ready = record { rising = λ k h. omega (arith, h); first = lit≤ tt; last = lit≤ tt };
  given = lit< tt;
  named = λ name no. ap (λ o. unwrap_or o []) (get-empty (slice_cmp nat_cmp) name);
  numbered = search rules;
}

pub sound-empty : (b : Bus) (quota : ℕ) → b ≡ empty_bus quota → IsSound b.state
sound-empty b quota e = subst (λ (c : Bus). IsSound c.state) (sym e) sound-begins
