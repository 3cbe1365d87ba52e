-- Buses with few links, for values that are worked out by hand.
use Rattle.std.specs.Prelude.{ℕ, ◌==◌, List, ◌∷◌, Option, None, Some, if◌then◌else◌, []}
use Rattle.atspi_message.specs.Envelope.{Envelope}
use Rattle.atspi_match.specs.routing.Queues.{empty_bus, joins}
use Rattle.atspi_match.specs.routing.Room.{signal_m}
use Rattle.atspi_match.specs.declared.routing.closing.Why.TheVariants.{Quota}
use Rattle.atspi_live_bus.specs.Asked.{joining}
use Rattle.atspi_live_bus.specs.Course.{Course}

-- link 0 is connection 0, and so are 3 and 5 the links of 0 and 1
abbrev pub one_conn : ℕ → Option ℕ
one_conn k = if k == 0 then Some 0 else None

abbrev pub two_conns : ℕ → Option ℕ
two_conns k = if k == 3 then Some 0 else (if k == 5 then Some 1 else None)

-- a bus that these joined, and nothing else
abbrev pub one_link : Course
one_link = record { asked = joining 0 ∷ []; bus = joins (empty_bus 16777216) 0; conn = one_conn }

abbrev pub two_links : Course
two_links =
    record { asked = joining 0 ∷ joining 1 ∷ []; bus = joins (joins (empty_bus 16777216) 0) 1; conn = two_conns }

-- the same where connection 1, that of link 5, is to be closed
abbrev pub one_due : Course
one_due =
    record two_links {
      bus =
          record (joins (joins (empty_bus 16777216) 0) 1)
          { waiting = record (joins (joins (empty_bus 16777216) 0) 1).waiting { due = (1, Quota 5 6) ∷ [] } };
    }

abbrev pub signal_of : List ℕ → Envelope
signal_of path = record signal_m { path = Some path }
