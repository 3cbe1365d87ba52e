-- Words that only the private contracts and proofs beside `Waits` use.
use Rattle.std.specs.Prelude.{Option, None, Some}
use Rattle.atspi_trace.specs.Causes.{Cause, routes, unjoins, gets}
use Rattle.atspi_world_moves.specs.declared.waiting.Turn.{Turn}
use Rattle.atspi_world_moves.specs.declared.waiting.Turn.TheVariants.{Route, Part, Get}

-- a turn of the definitions, as the code names it: the bus takes a message, or an end that stopped, or an end takes a
-- message
abbrev pub turn_of : Cause → Option Turn
turn_of (routes conn) = Some (Route conn)
turn_of (unjoins conn) = Some (Part conn)
turn_of (gets conn) = Some (Get conn)
turn_of c = None

abbrev pub turn_next : Option Cause → Option Turn
turn_next None = None
turn_next (Some c) = turn_of c
