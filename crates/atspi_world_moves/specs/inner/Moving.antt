-- Words that only the private contracts and proofs beside `Moving` use.
use Rattle.std.specs.Prelude.{◌≡◌, ◌<◌, ◌-◌, ℕ, List, ◌++◌, length, Option, None, Some, []}
use Rattle.atspi_message.specs.Envelope.{Envelope}
use Rattle.atspi_message.specs.Bytes.{IsMessage, written}
use Rattle.atspi_match.specs.routing.Queues.{Bus}
use Rattle.atspi_trace_events.specs.declared.event.Event.{Event}
use Rattle.atspi_world_links.specs.declared.post.Post.{Post}
use Rattle.atspi_trace.specs.World.{World}
use Rattle.atspi_trace.specs.Causes.{does, routes}
use Rattle.atspi_trace.specs.Work.{moving_up, cause, next_of}
use Rattle.atspi_world_moves.specs.Carried.{IsCarried, IsDone}
use Rattle.atspi_world_moves.specs.Linked.{IsLinked}
use Rattle.atspi_world_moves.specs.Segments.{IsWorked}
use Rattle.atspi_world_moves.specs.Moving.{MovesAt}

-- so many bytes of the first message of a link were not moved yet; nothing waits on an empty one
pub record IsLacking (p : Post) (len : Option ℕ) : Type 0 where
  pub none : p.up ≡ [] → len ≡ None
  pub some : (m : Envelope) (rest : List ℕ) → IsMessage m (written m) → p.up ≡ written m ++ rest
      → len ≡ Some (length (written m) - p.begun)

-- the bytes completed the first message, which the bus took; so many more may be moved
pub record IsCompleted (w : World) (conn most left : ℕ) (bus : Bus) (posts : List Post) (given given' : List (List ℕ))
    (old new : List Event) : Type 0 where
  pub next : next_of w (moving_up conn most) ≡ cause (routes conn) w (moving_up conn left)
  pub done : IsDone (does w (routes conn)) bus posts old new
  pub linked : IsLinked w given → IsLinked (does w (routes conn)).world given'
  pub moves : MovesAt posts conn
  pub fewer : left < most

-- or they completed none
abbrev pub MovedSome : World → ℕ → ℕ → Option ℕ → Bus → List Post → List (List ℕ) → List (List ℕ) → List Event
    → List Event → Type 0
MovedSome w conn most None bus posts given given' old new =
    IsWorked w (moving_up conn most) bus posts given given' old new
MovedSome w conn most (Some left) bus posts given given' old new =
    IsCompleted w conn most left bus posts given given' old new

abbrev pub MovesSome : Bus → Bus → List Post → List Post → List (List ℕ) → List (List ℕ) → ℕ → ℕ → Option ℕ → List Event
    → List Event → Type 0
MovesSome before after posts posts' given given' conn most left old new = (w : World) → IsCarried w before posts
    → MovesAt posts conn → MovedSome w conn most left after posts' given given' old new
