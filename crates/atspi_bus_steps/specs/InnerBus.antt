-- How contracts see what a bus knows.
use Rattle.std.specs.Prelude.{ℕ, List, map}
use Rattle.atspi_message.specs.Envelope.{envelope_of}
use Rattle.atspi_names.specs.Owners.{Owners}
use Rattle.atspi_match.specs.declared.condition.Condition.{Condition}
use Rattle.atspi_match.specs.routing.BusState as state
use Rattle.atspi_match.specs.routing.BusState.{BusState, begins}
use Rattle.atspi_match.specs.routing.Queues.{Bus}
use Rattle.atspi_bus_steps.specs.declared.inner.Inner.{Inner}
use Rattle.atspi_bus_steps.specs.declared.open_call.OpenCall.{OpenCall}

abbrev pub call_of : OpenCall → state.OpenCall
call_of c = record { caller = c.caller; serial = c.serial; callee = c.callee }

abbrev pub state_of : Inner → BusState
state_of b =
    record {
      joined = b.joined.items;
      owners = b.names;
      rules = b.rules;
      calls = map call_of b.calls.items;
      next = b.next;
    }

abbrev pub inner_of : Inner → Bus
inner_of b = record {
  quota = b.queues.quota;
  state = state_of b;
  waiting = b.queues.waiting;
  own = map envelope_of b.own.items;
  closings = b.closings.items;
}

-- the part of a bus's state that routing reads
abbrev pub parts : List ℕ → Owners → List (ℕ × List Condition) → BusState
parts joined owners rules = record begins { joined = joined; owners = owners; rules = rules }
