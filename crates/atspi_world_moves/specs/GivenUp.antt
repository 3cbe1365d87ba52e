-- A carrier that is given up, for want of memory or for what no script comes to.
use Rattle.std.specs.Prelude.{◌≡◌, ℕ, Bool, true, false, List, Result, Ok, Err, []}
use Rattle.atspi_match.specs.routing.Queues.{Bus, empty_bus}
use Rattle.atspi_trace_events.specs.declared.event.Event.{Event}
use Rattle.atspi_world_links.specs.declared.post.Post.{Post}
use Rattle.atspi_world_moves.specs.declared.fault.CarryFault.{CarryFault}
use Rattle.atspi_world_moves.specs.declared.fault.CarryFault.TheVariants.{NoMemory, Unsendable}

-- its bus has quota 0 and nobody has joined it, nothing lies at an end, and just what was told before is told
pub record IsGivenUp (bus : Bus) (posts : List Post) (given : List (List ℕ)) (old new : List Event) : Type 0 where
  pub bus_is : bus ≡ empty_bus 0
  pub nobody : posts ≡ []
  pub nothing : given ≡ []
  pub told : new ≡ old

-- so it is after want of memory, and for what no script comes to
abbrev pub gives_up : CarryFault → Bool
gives_up NoMemory = true
gives_up Unsendable = true
gives_up fault = false

-- what holds behind a fault for which all is given up; which these are, a step and a line say each of their own
abbrev pub OnGivingUp : {A F : Type 0} → (F → Bool) → Result A F → Type 0 → Type 0
OnGivingUp is_given_up (Ok done) holds = Unit {0}
OnGivingUp is_given_up (Err fault) holds = is_given_up fault ≡ true → holds
