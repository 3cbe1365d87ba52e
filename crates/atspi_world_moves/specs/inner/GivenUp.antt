-- Words that only the private contracts and proofs beside `GivenUp` use.
use Rattle.std.specs.Prelude.{◌≡◌, ℕ, Bool, false, List, ◌++◌, Result, Ok, Err}
use Rattle.atspi_bus_steps.specs.declared.inner.Inner.{Inner}
use Rattle.atspi_trace_events.specs.declared.event.Event.{Event}
use Rattle.atspi_world_links.specs.declared.post.Post.{Post}

-- and what holds in all other cases
abbrev pub UnlessGivenUp : {A F : Type 0} → (F → Bool) → Result A F → Type 0 → Type 0
UnlessGivenUp is_given_up (Ok done) holds = holds
UnlessGivenUp is_given_up (Err fault) holds = is_given_up fault ≡ false → holds

-- what was told apart stands behind what was told before, and all else is as it was
pub record IsRejoined (bus bus' : Inner) (posts posts' : List Post) (given given' : List (List ℕ))
    (before apart new : List Event) : Type 0 where
  pub bus_is : bus' ≡ bus
  pub posts_are : posts' ≡ posts
  pub given_are : given' ≡ given
  pub told : new ≡ before ++ apart
