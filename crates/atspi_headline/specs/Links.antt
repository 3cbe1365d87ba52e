-- The bus and its links in a run: to whom each message is handed, what of that is let in, what waits, what is dropped.
use Rattle.std.specs.Prelude.{◌==◌, ◌&&◌, not, nat_le, nat_lt, min, zero, suc, ◌+◌, ◌-◌, Bool, true, false, List, []}
use Rattle.std.specs.Prelude.{◌∷◌, ◌++◌, length, map, filter, filter_map, fold, Option, None, Some, option_map}
use Rattle.std.specs.Prelude.{slice_get, drop, if◌then◌else◌, ℕ}
use Rattle.atspi_message.specs.Envelope.{Envelope}
use Rattle.atspi_message.specs.Bytes.{written}
use Rattle.atspi_message.specs.Length.{told}
use Rattle.atspi_names.specs.Owners.{own_name}
use Rattle.atspi_match.specs.routing.Members.{is_text}
use Rattle.atspi_match.specs.routing.BusState.{BusState, begins as no_bus}
use Rattle.atspi_match.specs.routing.Steps.{Move, delivers, BusStep, bus_takes, bus_leaves, bus_joins}
use Rattle.atspi_tree_model.specs.Forest.{first_of}
use Rattle.atspi_script_lines.specs.declared.limits.TheConstants.{QUOTA_MOST}
use Rattle.atspi_script_lines.specs.declared.line.Line.TheVariants.{Quota}
use Rattle.atspi_script_lines.specs.declared.line.Party.{Party}
use Rattle.atspi_script_lines.specs.declared.line.Party.TheVariants.{Bus as The_bus, Registry}
use Rattle.atspi_protocol.specs.ends.Messages.{numbered}
use Rattle.atspi_protocol.specs.registering.Told.{hello_call, request_call, match_call}
use Rattle.atspi_trace.specs.Entry.{Entry, started, got, dropped}
use Rattle.atspi_trace.specs.Rules.{rule_in}
use Rattle.atspi_headline.specs.Words.{Act, begins_line, moves_bytes, takes_end, writes, gathered, is_same, ends}
use Rattle.atspi_headline.specs.Words.{place_of, is_live, is_stopped, messages, with_serial}

-- THE BUS. What it does with the messages and the ends that it takes is told by its own definitions, from its state
-- behind the registry's start on: what it says, and to whom it hands which message.
abbrev pub registry_said : BusState → Envelope → BusState
registry_said s e = (bus_takes s 0 e (rule_in e)).state

abbrev pub first_state : BusState
first_state =
    fold registry_said (bus_joins no_bus 0) (numbered 1 (hello_call ∷ (request_call ∷ (match_call ∷ []))))

abbrev pub idle : BusState → BusStep
idle s = record { state = s; moves = [] }

abbrev pub bus_took : BusState → Option ℕ → List Envelope → BusStep
bus_took s (Some place) (e ∷ es) = bus_takes s place e (rule_in e)
bus_took s place es = idle s

abbrev pub bus_left : BusState → Option ℕ → BusStep
bus_left s (Some place) = bus_leaves s place
bus_left s None = idle s

abbrev pub bus_does : List Act → BusState → Act → BusStep
bus_does before s (writes (started who name)) = idle (bus_joins s (length (ends before)))
bus_does before s (writes (got The_bus who serial)) = bus_took s (place_of before who) (with_serial before who serial)
bus_does before s (takes_end who) = bus_left s (place_of before who)
bus_does before s (writes (dropped Registry queued len)) = idle s
bus_does before s (writes (dropped who queued len)) = bus_left s (place_of before who)
bus_does before s act = idle s

abbrev pub state_after : List Act → BusState → Act → BusState
state_after before s act = (bus_does before s act).state

abbrev pub moves_at : List Act → Act → List Move
moves_at before act = (bus_does before (gathered state_after first_state [] before) act).moves

-- how many bytes of a link were moved
abbrev pub is_same_way : Bool → Bool → Bool
is_same_way true way = way
is_same_way false way = not way

abbrev pub moved_after : Party → Bool → ℕ → Act → ℕ
moved_after who up n (moves_bytes other way count) = if is_same who other && is_same_way up way then n + count else n
moved_after who up n act = n

abbrev pub moved : List Act → Party → Bool → ℕ
moved run who up = fold (moved_after who up) 0 run

-- A DELIVERY: the message, to whom and from whom, and how much of the receiver's text was moved by then
pub record Delivery : Type 0 where
  pub to : Party
  pub from : Party
  pub letter : Envelope
  pub mark : ℕ

abbrev pub sender_at : Act → Party
sender_at (writes (got The_bus who serial)) = who
sender_at act = The_bus

abbrev pub delivery_to : List Act → Party → Envelope → Party → Delivery
delivery_to before who e to = record {
  to = to;
  from = if is_text e.sender own_name then The_bus else who;
  letter = e;
  mark = moved before to false;
}

abbrev pub delivery_in : List Act → Party → Move → Option Delivery
delivery_in before who (delivers place e) = option_map (delivery_to before who e) (slice_get (ends before) place)
delivery_in before who move = None

abbrev pub delivered_after : List Act → List Delivery → Act → List Delivery
delivered_after before ds act = ds ++ filter_map (delivery_in before (sender_at act)) (moves_at before act)

abbrev pub deliveries : List Act → List Delivery
deliveries run = gathered delivered_after [] [] run

-- a text is the written messages one behind the other; a message of it, with its sender
abbrev pub size : Envelope → ℕ
size e = length (written e)

abbrev pub sizes : List (Party × Envelope) → ℕ
sizes [] = 0
sizes (m ∷ ms) = size m.1 + sizes ms

abbrev pub letters : List Delivery → List (Party × Envelope)
letters ds = map (λ (d : Delivery). (d.from, d.letter)) ds

-- the bytes that wait, and those of the message, pass the quota: it is not made, and none behind it
abbrev pub passes : ℕ → List Delivery → Delivery → Bool
passes quota made d = nat_lt quota ((sizes (letters made) - d.mark) + size d.letter)

abbrev pub kept : ℕ → List Delivery → List Delivery → List Delivery
kept quota made [] = made
kept quota made (d ∷ ds) = if passes quota made d then made else kept quota (made ++ d ∷ []) ds

abbrev pub quota_after : ℕ → Act → ℕ
quota_after quota (begins_line (Quota count)) = count
quota_after quota act = quota

abbrev pub quota_of : List Act → ℕ
quota_of run = fold quota_after QUOTA_MOST run

-- THE MESSAGES ROUTED to an end
abbrev pub is_to : Party → Delivery → Bool
is_to who d = is_same d.to who

abbrev pub routed : List Act → Party → List Delivery
routed run who = kept (quota_of run) [] (filter (is_to who) (deliveries run))

-- the link of an end to the bus is what it sent, that from the bus what is routed to it
abbrev pub link : List Act → Party → Bool → List (Party × Envelope)
link run who true = map (λ e. (who, e)) (messages run who)
link run who false = letters (routed run who)

-- the messages that lie whole within so many first bytes, and the bytes that are missing of the one behind them
abbrev pub whole_in : ℕ → List (Party × Envelope) → List (Party × Envelope)
whole_in count [] = []
whole_in count (m ∷ ms) = if nat_le (size m.1) count then m ∷ whole_in (count - size m.1) ms else []

abbrev pub missing_in : ℕ → List (Party × Envelope) → ℕ
missing_in count [] = 0
missing_in count (m ∷ ms) = if nat_le (size m.1) count then missing_in (count - size m.1) ms else size m.1 - count

-- the messages whose last byte is among so many that are moved next
abbrev pub completed : List Act → Party → Bool → ℕ → List (Party × Envelope)
completed before who up count =
    let ms = link before who up in
    drop (length (whole_in (moved before who up) ms)) (whole_in (moved before who up + count) ms)

-- WHAT WAITS: bytes of a live end's link; an end that stopped. A turn moves the first thing that waits, the links to
-- the bus first, in order of joining: all missing bytes of a message, or the end.
abbrev pub waiting : List Act → Party → Bool → ℕ
waiting run who up = if is_live run who then sizes (link run who up) - moved run who up else 0

abbrev pub missing : List Act → Party → Bool → ℕ
missing run who up = if is_live run who then missing_in (moved run who up) (link run who up) else 0

abbrev pub turn_of : Party → Bool → ℕ → Option Act
turn_of who up zero = None
turn_of who up (suc n) = Some (moves_bytes who up (suc n))

abbrev pub up_turn : List Act → Party → Option Act
up_turn run who = if is_stopped run who then Some (takes_end who) else turn_of who true (missing run who true)

abbrev pub down_turn : List Act → Party → Option Act
down_turn run who = turn_of who false (missing run who false)

abbrev pub first_turn : (Party → Option Act) → List Party → Option Act
first_turn turn [] = None
first_turn turn (who ∷ rest) = first_of (turn who) (first_turn turn rest)

abbrev pub next_turn : List Act → Option Act
next_turn run = first_of (first_turn (up_turn run) (ends run)) (first_turn (down_turn run) (ends run))

-- the one move of a line `bytes`: at most so many of the bytes that wait; any also move the end of one that stopped
abbrev pub bytes_move : List Act → Party → Bool → ℕ → Act
bytes_move run who up count =
    if up && (is_stopped run who && nat_lt 0 count) then takes_end who
    else moves_bytes who up (min count (waiting run who up))

-- WHO IS TO BE DROPPED, in order, with the bytes that waited and those of the message, of which 4,294,967,295 are told
-- at most: at the first delivery to each end that its quota does not let in
abbrev pub drop_at : ℕ → List Delivery → Delivery → List Entry
drop_at quota before d =
    let own = filter (is_to d.to) before in
    let made = kept quota [] own in
    if (length made == length own) && passes quota made d
    then dropped d.to (sizes (letters made) - d.mark) (told (size d.letter)) ∷ [] else []

abbrev pub drops_among : ℕ → List Delivery → List Delivery → List Entry
drops_among quota before [] = []
drops_among quota before (d ∷ ds) = drop_at quota before d ++ drops_among quota (before ++ d ∷ []) ds

abbrev pub drops_due : List Act → List Entry
drops_due run = drops_among (quota_of run) [] (deliveries run)
