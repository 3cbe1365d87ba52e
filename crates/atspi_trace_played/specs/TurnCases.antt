-- A world in which one message waits.
use Rattle.std.specs.Prelude.{[], ◌∷◌}
use Rattle.atspi_script_lines.specs.declared.line.Party.TheVariants.{Bus as The_bus}
use Rattle.atspi_protocol.specs.declared.following.question.Question.TheVariants.{Hello}
use Rattle.atspi_protocol.specs.following.Calls.{asking}
use Rattle.atspi_trace.specs.World.{first_registry, first_world, World}
use Rattle.atspi_trace.specs.Ends.{plain}
use Rattle.atspi_trace.specs.Causes.{gets, does}
use Rattle.atspi_trace.specs.play.Playing.{Playing}

-- a return to no call, on the registry's down link
abbrev pub one_waits : World
one_waits =
    record (first_world 4096) {
      ends =
          record first_registry
          { down = record { from = The_bus; said = plain (record (asking 8 Hello) { kind = 2 }) } ∷ [] }
          ∷ [];
    }

-- the same, played: no reader was started; and behind the turn that takes the message
abbrev pub one_plays : Playing
one_plays = record { world = one_waits; readers = [] }

abbrev pub one_played : Playing
one_played = record { world = (does one_waits (gets 0)).world; readers = [] }
