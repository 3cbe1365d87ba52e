-- What is left of a line at work, done: one cause after another, each with its entries, up to a world at rest.
use Rattle.std.specs.Prelude.{◌≡◌, List, [], ◌++◌}
use Rattle.atspi_trace.specs.Entry.{Entry}
use Rattle.atspi_trace.specs.World.{World}
use Rattle.atspi_trace.specs.Causes.{Cause, does}
use Rattle.atspi_trace.specs.Work.{Work, cause, rests, next_of}

-- from a world with what is left of its line these entries are written, and then all rests in a world
pub data Works : World → Work → List Entry → World → Type 0 where
  at_rest : (w v : World) (work : Work) → next_of w work ≡ rests v → Works w work [] v
  caused : (w v u : World) (work left : Work) (c : Cause) (entries : List Entry) → next_of w work ≡ cause c v left
      → Works (does v c).world left entries u
      → Works w work ((does v c).entries ++ entries) u
