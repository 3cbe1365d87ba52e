-- The bytes that wait for each connection, and the closings that a full queue brings (this profile: a queue has a quota
-- of bytes).
use Rattle.std.specs.Prelude.{◌==◌, not, nat_lt, ℕ, zero, suc, ◌+◌, ◌-◌, Bool, List, [], ◌∷◌, ◌++◌, length, filter}
use Rattle.std.specs.Prelude.{Option, None, Some, if◌then◌else◌}
use Rattle.std.specs.List.{list_any, fold}
use Rattle.std.specs.FinMap as finmap
use Rattle.std.specs.FinMap.{FinMap}
use Rattle.std.specs.Ordering.{nat_cmp}
use Rattle.atspi_message.specs.Envelope.{Envelope}
use Rattle.atspi_message.specs.Bytes.{written}
use Rattle.atspi_message.specs.Length.{told}
use Rattle.atspi_match.specs.declared.condition.Condition.{Condition}
use Rattle.atspi_match.specs.declared.routing.closing.Why.{Why}
use Rattle.atspi_match.specs.declared.routing.closing.Why.TheVariants.{NotHello, Quota}
use Rattle.atspi_match.specs.declared.routing.closing.Closing.{Closing}
use Rattle.atspi_match.specs.routing.BusState.{BusState, begins}
use Rattle.atspi_match.specs.routing.Steps.{Move, says, delivers, closes, BusStep, bus_takes, bus_leaves, bus_joins}

-- what waits for each connection, and who is to be closed and why, in the order of the causes
pub record Waiting : Type 0 where
  pub queues : FinMap nat_cmp (List ℕ)
  pub due : List (ℕ × Why)

-- what waits for one: nothing for one that has left or was closed
abbrev pub or_nothing : Option (List ℕ) → List ℕ
or_nothing None = []
or_nothing (Some bytes) = bytes

abbrev pub queue_of : FinMap nat_cmp (List ℕ) → ℕ → List ℕ
queue_of queues conn = or_nothing (finmap.get queues conn)

abbrev pub is_due : ℕ → List (ℕ × Why) → Bool
is_due conn due = list_any (λ (d : ℕ × Why). d.0 == conn) due

-- a connection is to be closed, once
abbrev pub doomed : Waiting → ℕ → Why → Waiting
doomed w conn why = if is_due conn w.due then w else record w { due = w.due ++ (conn, why) ∷ [] }

-- how many bytes a message is told to have: 4,294,967,295 at most
abbrev pub told_length : List ℕ → ℕ
told_length bytes = told (length bytes)

-- bytes go to a queue that has room for them; to one that has not they do not, and its connection is to be closed. To
-- one that is to be closed nothing goes. So it is with all that is handed on, also where it is too long for the wire.
abbrev pub queued : ℕ → Waiting → ℕ → List ℕ → Waiting
queued quota w conn bytes =
    if is_due conn w.due then w
    else if nat_lt quota (length (queue_of w.queues conn) + length bytes)
    then doomed w conn (Quota (length (queue_of w.queues conn)) (told_length bytes))
    else record w { queues = finmap.insert w.queues conn (queue_of w.queues conn ++ bytes) }

-- one thing that the bus does, as the queues see it
abbrev pub moved : ℕ → Waiting → Move → Waiting
moved quota w (says e) = w
moved quota w (delivers conn e) = queued quota w conn (written e)
moved quota w (closes conn) = doomed w conn NotHello

-- the bus's own messages in a list of moves
abbrev pub own_of : List Move → List Envelope
own_of [] = []
own_of (says e ∷ moves) = e ∷ own_of moves
own_of (delivers conn e ∷ moves) = own_of moves
own_of (closes conn ∷ moves) = own_of moves

-- A bus with its queues: its own messages and closings that nobody has asked for yet, the oldest first.
pub record Bus : Type 0 where
  pub quota : ℕ
  pub state : BusState
  pub waiting : Waiting
  pub own : List Envelope
  pub closings : List Closing

-- the bus after a step: its own messages stand behind those before, and each delivery goes to its queue
abbrev pub stepped : Bus → BusStep → Bus
stepped b step = record b {
  state = step.state;
  waiting = fold (moved b.quota) b.waiting step.moves;
  own = b.own ++ own_of step.moves;
}

-- a connection's queue goes with it
abbrev pub without_queue : Waiting → ℕ → Waiting
without_queue w conn =
    record { queues = finmap.remove w.queues conn; due = filter (λ (d : ℕ × Why). not (d.0 == conn)) w.due }

-- a connection has left
abbrev pub left : Bus → ℕ → Bus
left b conn = stepped (record b { waiting = without_queue b.waiting conn }) (bus_leaves b.state conn)

-- the first that is to be closed is closed: that is told with the serial of the last own message before, and it leaves
abbrev pub closed : Bus → ℕ → Why → Bus
closed b conn why =
    left (record b { closings = b.closings ++ record { conn = conn; why = why; after = b.state.next - 1 } ∷ [] }) conn

-- the first that is to be closed, if there is one
abbrev pub one_closed : Bus → List (ℕ × Why) → Bus
one_closed b [] = b
one_closed b (first ∷ rest) = closed b first.0 first.1

-- all that are to be closed are, in the order of the causes; those that a closing causes come behind. Each closes one
-- that has joined, so as many rounds are enough.
abbrev pub settled : ℕ → Bus → Bus
settled zero b = b
settled (suc rounds) b = settled rounds (one_closed b b.waiting.due)

-- a bus with this quota, to which nobody has joined
abbrev pub empty_bus : ℕ → Bus
empty_bus quota =
    record {
      quota = quota;
      state = begins;
      waiting = record { queues = finmap.empty; due = [] };
      own = [];
      closings = [];
    }

-- a connection joins, with an empty queue
abbrev pub joins : Bus → ℕ → Bus
joins b conn =
    record b {
      state = bus_joins b.state conn;
      waiting = record b.waiting { queues = finmap.insert b.waiting.queues conn [] };
    }

-- the bus takes a message of a connection
abbrev pub takes : Bus → ℕ → Envelope → Option (List Condition) → Bus
takes b conn e rule = settled (length b.state.joined) (stepped b (bus_takes b.state conn e rule))

-- a connection leaves by itself
abbrev pub leaves : Bus → ℕ → Bus
leaves b conn = settled (length b.state.joined) (left b conn)

-- the first bytes of a queue were taken
abbrev pub popped : Bus → ℕ → List ℕ → Bus
popped b conn rest = record b { waiting = record b.waiting { queues = finmap.insert b.waiting.queues conn rest } }
