-- What was asked of a bus, call by call, and where that led it.
use Rattle.std.specs.Prelude.{◌≡◌, ◌<◌, ◌⊎◌, ℕ, ◌==◌, List, [], ◌∷◌, ◌++◌, Option, if◌then◌else◌}
use Rattle.atspi_message.specs.Envelope.{Envelope}
use Rattle.atspi_match.specs.declared.condition.Condition.{Condition}
use Rattle.atspi_match.specs.routing.Queues.{queue_of, joins, takes, leaves}
use Rattle.atspi_match.specs.routing.Queues as queues
use Rattle.atspi_bus_queues.specs.Change.{with_queue}
use Rattle.atspi_bus_steps.specs.Spoken.{IsRuleTaken}

-- A connection joined; a message of a connection was taken; a connection left; the first of the bytes that wait for a
-- connection were handed out; its own messages or its closings were asked for.
pub data Asked : Type 0 where
  joining : ℕ → Asked
  taking : ℕ → Envelope → Asked
  leaving : ℕ → Asked
  popping : ℕ → List ℕ → Asked
  telling : Asked

-- what one call makes of a bus
abbrev pub Leads : queues.Bus → Asked → queues.Bus → Type 0
Leads b (joining c) b' = b' ≡ joins b c
Leads b (taking c e) b' = (rule : Option (List Condition)) × IsRuleTaken b.state c e rule × (b' ≡ takes b c e rule)
Leads b (leaving c) b' = b' ≡ leaves b c
Leads b (popping c bytes) b' =
    (rest : List ℕ) × (queue_of b.waiting.queues c ≡ bytes ++ rest)
    × (b' ≡ record b { waiting = record b.waiting { queues = with_queue b.waiting.queues c rest } })
Leads b telling b' = b ≡ record b' { own = b.own; closings = b.closings }

-- what all calls make of it, one behind the other
abbrev pub Runs : queues.Bus → List Asked → queues.Bus → Type 0
Runs b [] b' = b' ≡ b
Runs b (a ∷ asks) b' = (mid : queues.Bus) × Leads b a mid × Runs mid asks b'

-- the message of a connection that a call took, and the bytes that it handed out for one
abbrev pub message_in : ℕ → Asked → List Envelope
message_in c (joining d) = []
message_in c (taking d e) = if d == c then e ∷ [] else []
message_in c (leaving d) = []
message_in c (popping d bytes) = []
message_in c telling = []

abbrev pub handed_in : ℕ → Asked → List ℕ
handed_in c (joining d) = []
handed_in c (taking d e) = []
handed_in c (leaving d) = []
handed_in c (popping d bytes) = if d == c then bytes else []
handed_in c telling = []

-- the messages of a connection that all calls took, and the bytes that they handed out for it
abbrev pub messages_of : ℕ → List Asked → List Envelope
messages_of c [] = []
messages_of c (a ∷ asks) = message_in c a ++ messages_of c asks

abbrev pub handed_to : ℕ → List Asked → List ℕ
handed_to c [] = []
handed_to c (a ∷ asks) = handed_in c a ++ handed_to c asks

-- a step that the bus is asked for would take its own messages past number 4,294,967,295
abbrev pub Spends : queues.Bus → Type 0
Spends b =
    ((c : ℕ) × (e : Envelope) × (rule : Option (List Condition)) × IsRuleTaken b.state c e rule
    × (4294967296 < (takes b c e rule).state.next))
    ⊎ ((c : ℕ) × (4294967296 < (leaves b c).state.next))
