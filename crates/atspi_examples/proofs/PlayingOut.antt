-- A work that is over, and one of one cause.
use Rattle.std.specs.Prelude.{◌≡◌, [], ◌++◌}
use Rattle.atspi_trace.specs.Causes.{Cause}
use Rattle.atspi_trace.specs.Work.{Work, cause, rests, next_of}
use Rattle.atspi_trace.specs.play.Playing.{Playing}
use Rattle.atspi_trace.specs.play.Plays.{plays}
use Rattle.atspi_trace.specs.play.Played.{PlaysOut, at_rest, caused}

pub over : (p : Playing) (left : Work) → next_of p.world left ≡ rests p.world → PlaysOut p left [] p
over p left is = at_rest p p.world left is

pub one_cause : (p : Playing) (c : Cause) (left rest : Work) → next_of p.world left ≡ cause c p.world rest → next_of (plays p c).now.world rest ≡ rests (plays p c).now.world
    → PlaysOut p left ((plays p c).entries ++ []) (plays p c).now
one_cause p c left rest is last = caused p (plays p c).now p.world left rest c [] is (over (plays p c).now rest last)
