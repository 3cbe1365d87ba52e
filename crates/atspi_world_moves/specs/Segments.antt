-- What is left of a line at work was done, as far as it lies between the ends.
use Rattle.std.specs.Prelude.{◌≡◌, ℕ, List, ◌++◌}
use Rattle.atspi_match.specs.routing.Queues.{Bus}
use Rattle.atspi_trace_events.specs.declared.event.Event.{Event}
use Rattle.atspi_world_links.specs.declared.post.Post.{Post}
use Rattle.atspi_trace.specs.Entry.{Entry, entries_of}
use Rattle.atspi_trace.specs.World.{World}
use Rattle.atspi_trace.specs.Work.{Work}
use Rattle.atspi_trace.specs.Works.{Works}
use Rattle.atspi_world_moves.specs.Carried.{IsCarried}
use Rattle.atspi_world_moves.specs.Linked.{IsLinked}

-- bus and connections are those of the world at rest, and so is what lies at the ends; just the entries of the causes
-- were written
pub record IsWorked (w : World) (work : Work) (bus : Bus) (posts : List Post) (given given' : List (List ℕ))
    (old new : List Event) : Type 0 where
  pub after : World
  pub entries : List Entry
  pub works : Works w work entries after
  pub tied : IsCarried after bus posts
  pub linked : IsLinked w given → IsLinked after given'
  pub wrote : entries_of new ≡ entries_of old ++ entries
