-- The lines of a script, done one after another in such a world.
use Rattle.std.specs.Prelude.{◌≡◌, ℕ, false, List, [], ◌∷◌, ◌++◌, Option, None, Some}
use Rattle.atspi_tree_model.specs.declared.view.Row.{Row}
use Rattle.atspi_tree_model.specs.Forest.{Forest}
use Rattle.atspi_script_lines.specs.declared.limits.TheConstants.{QUOTA_MOST}
use Rattle.atspi_script_lines.specs.declared.line.Line.{Line}
use Rattle.atspi_script_lines.specs.declared.line.Line.TheVariants.{Call}
use Rattle.atspi_script_lines.specs.declared.line.Party.TheVariants.{App, Reader}
use Rattle.atspi_trace.specs.Entry.{Entry}
use Rattle.atspi_trace.specs.World.{World}
use Rattle.atspi_trace.specs.Ends.{end_of}
use Rattle.atspi_trace.specs.Causes.{Cause}
use Rattle.atspi_trace.specs.Work as work
use Rattle.atspi_trace.specs.Work.{Refusal, not_held, if_started, if_here, Work, work_of, cause, rests, next_of}
use Rattle.atspi_trace.specs.Due.{is_lost}
use Rattle.atspi_trace.specs.play.Playing.{Playing, first_playing, view_in}
use Rattle.atspi_trace.specs.play.Plays.{plays}

-- why a line is refused: as in any world, but that a reader's call is of an application that it holds by its own view
abbrev pub if_viewed : Option (Forest Row) → Option Refusal
if_viewed None = Some not_held
if_viewed (Some v) = None

abbrev pub refused : Playing → Line → Option Refusal
refused p (Call reader app node deed) =
    if_started (end_of p.world.ends (Reader reader))
    (λ r. if_started (end_of p.world.ends (App app))
    (λ a. if_here r (λ caller. if_viewed (view_in p reader a.unique))))
refused p line = work.refused p.world line

-- WHAT IS LEFT OF A LINE, DONE: one cause after another, each with its entries, up to a world at rest
pub data PlaysOut : Playing → Work → List Entry → Playing → Type 0 where
  at_rest : (p : Playing) (v : World) (left : Work) → next_of p.world left ≡ rests v
      → PlaysOut p left [] (record p { world = v })
  caused : (p q : Playing) (v : World) (left rest : Work) (c : Cause) (entries : List Entry)
      → next_of p.world left ≡ cause c v rest → PlaysOut (plays (record p { world = v }) c).now rest entries q
      → PlaysOut p left ((plays (record p { world = v }) c).entries ++ entries) q

-- LINES WERE DONE, none of them refused, and the registry is there behind each: these entries were written, and this is
-- the world
pub data IsPlayed : List Line → List Entry → Playing → Type 0 where
  begun : IsPlayed [] [] (first_playing QUOTA_MOST)
  did : (lines : List Line) (line : Line) (es entries : List Entry) (p q : Playing) → IsPlayed lines es p
      → refused p line ≡ None → PlaysOut p (work_of p.world line) entries q → is_lost q.world ≡ false
      → IsPlayed (lines ++ line ∷ []) (es ++ entries) q
