-- The beginning of a world: the bus takes the three calls of the registry's start, and what it returns comes down.
use Rattle.std.specs.Prelude.{◌≡◌, ℕ, List, ◌∷◌, ◌++◌, Some}
use Rattle.atspi_match.specs.routing.Queues.{Bus}
use Rattle.atspi_trace_events.specs.declared.event.Event.{Event}
use Rattle.atspi_world_links.specs.declared.post.Post.{Post}
use Rattle.atspi_trace.specs.Entry.{Entry, entries_of}
use Rattle.atspi_trace.specs.World.{here, Said, End, World}
use Rattle.atspi_trace.specs.Ends.{end_at}
use Rattle.atspi_trace.specs.Causes.{does, routes}
use Rattle.atspi_world_moves.specs.Carried.{IsCarried}

-- a message waits on the up link of a connection whose end is there
pub record HasUp (w : World) (conn : ℕ) : Type 0 where
  pub the_end : End
  pub first : Said
  pub rest : List Said
  pub at : end_at w.ends conn ≡ Some the_end
  pub stands : the_end.standing ≡ here
  pub up : the_end.up ≡ first ∷ rest

-- the bus took it
abbrev pub with_one_taken : World → ℕ → World
with_one_taken w conn = (does w (routes conn)).world

-- three do, each behind what the bus does with the one before
pub record IsGreeting (w : World) (conn : ℕ) : Type 0 where
  pub first : HasUp w conn
  pub second : HasUp (with_one_taken w conn) conn
  pub third : HasUp (with_one_taken (with_one_taken w conn) conn) conn

-- only entries were written behind those before
pub record Extends (old new : List Event) : Type 0 where
  pub more : List Entry
  pub wrote : entries_of new ≡ entries_of old ++ more

-- the bus took all three
pub record IsGreeted (w : World) (conn : ℕ) (bus : Bus) (posts : List Post) (old new : List Event) : Type 0 where
  pub carried : IsCarried (with_one_taken (with_one_taken (with_one_taken w conn) conn) conn) bus posts
  pub extends : Extends old new
