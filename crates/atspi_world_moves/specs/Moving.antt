-- Bytes of an up link that are moved.
use Rattle.std.specs.Prelude.{◌≡◌, ◌⊎◌, ℕ, List, Some, slice_get, []}
use Rattle.atspi_match.specs.routing.Queues.{Bus}
use Rattle.atspi_trace_events.specs.declared.event.Event.{Event}
use Rattle.atspi_world_links.specs.declared.post.Post.{Post}
use Rattle.atspi_world_links.specs.declared.post.Standing.TheVariants.{Here, Away}
use Rattle.atspi_trace.specs.World.{World}
use Rattle.atspi_trace.specs.Work.{moving_up}
use Rattle.atspi_world_moves.specs.Carried.{IsCarried}
use Rattle.atspi_world_moves.specs.Segments.{IsWorked}

-- an end that is there, or one that left, whose link is empty
abbrev pub Moves : Post → Type 0
Moves p = (p.standing ≡ Here) ⊎ ((p.standing ≡ Away) × (p.up ≡ []))

-- the one at a connection
pub record MovesAt (posts : List Post) (conn : ℕ) : Type 0 where
  pub post : Post
  pub there : slice_get posts conn ≡ Some post
  pub moves : Moves post

abbrev pub MovesAll : Bus → Bus → List Post → List Post → List (List ℕ) → List (List ℕ) → ℕ → ℕ → List Event
    → List Event → Type 0
MovesAll before after posts posts' given given' conn most old new =
    (w : World) → IsCarried w before posts → MovesAt posts conn
    → IsWorked w (moving_up conn most) after posts' given given' old new
