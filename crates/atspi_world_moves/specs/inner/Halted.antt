-- Words that only the private contracts and proofs beside `Halted` use.
use Rattle.std.specs.Prelude.{◌≡◌, List}
use Rattle.atspi_trace_events.specs.declared.event.Event.{Event}
use Rattle.atspi_world_links.specs.declared.post.Post.{Post}
use Rattle.atspi_trace.specs.World.{World}
use Rattle.atspi_trace.specs.Causes.{Cause, does}
use Rattle.atspi_trace.specs.Work.{Work, cause, next_of}
use Rattle.atspi_world_moves.specs.Halted.{IsLostBy, IsSpentBy}

-- the same of the very first cause
pub record HasNext (w : World) (work : Work) : Type 0 where
  pub moved : World
  pub rest : Work
  pub next : Cause
  pub is_next : next_of w work ≡ cause next moved rest

pub record IsLostNext (w : World) (work : Work) (posts : List Post) (old new : List Event) : Type 0 where
  pub has : HasNext w work
  pub lost : IsLostBy (does has.moved has.next) posts old new

pub record IsSpentNext (w : World) (work : Work) (posts : List Post) (old new : List Event) : Type 0 where
  pub has : HasNext w work
  pub spent : IsSpentBy has.moved (does has.moved has.next) posts old new
