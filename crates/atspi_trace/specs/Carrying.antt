-- The bus between the ends: what it takes of one, and what it hands to each. Its state and its queues of bytes are
-- those of the bus's own definitions; here each end gets, beside the bytes, the messages that they are.
use Rattle.std.specs.Prelude.{ℕ, zero, suc, nat_lt, nat_le, not, Bool, List, [], ◌∷◌, ◌++◌, length, map, filter, fold}
use Rattle.std.specs.Prelude.{if◌then◌else◌}
use Rattle.atspi_tree_model.specs.Forest.{first_of}
use Rattle.atspi_script_lines.specs.declared.line.Party.{Party}
use Rattle.atspi_script_lines.specs.declared.line.Party.TheVariants.{Bus as The_bus, Registry}
use Rattle.atspi_message.specs.Envelope.{Envelope}
use Rattle.atspi_names.specs.Owners.{own_name}
use Rattle.atspi_match.specs.declared.routing.closing.Why.{Why}
use Rattle.atspi_match.specs.declared.routing.closing.Why.TheVariants.{NotHello, Quota}
use Rattle.atspi_match.specs.declared.routing.closing.Closing.{Closing}
use Rattle.atspi_match.specs.routing.BusState.{unique_of}
use Rattle.atspi_match.specs.routing.Members.{is_text}
use Rattle.atspi_match.specs.routing.Steps.{Move, delivers, BusStep, bus_takes, bus_leaves}
use Rattle.atspi_match.specs.routing.Queues as queues
use Rattle.atspi_match.specs.routing.Queues.{Waiting, Bus, queue_of, without_queue}
use Rattle.atspi_trace.specs.Entry.{Entry, sent, dropped}
use Rattle.atspi_trace.specs.Rules.{rule_in}
use Rattle.atspi_trace.specs.World.{Said, Letter, End}
use Rattle.atspi_trace.specs.Ends.{party_at, with_end, plain, put_down, taken_up, leaves, same_party}

-- the bus, and the ends
pub record Carried : Type 0 where
  pub bus : Bus
  pub ends : List End

-- the queues, and the ends
pub record Filled : Type 0 where
  pub waiting : Waiting
  pub ends : List End

-- a message of the bus's own, as an end gets it
abbrev pub own_letter : Envelope → Letter
own_letter e = record { from = The_bus; said = plain e }

-- what is handed on while the bus takes a message: that message of its sender's, or one of the bus's own
abbrev pub letter_of : Party → Said → Envelope → Letter
letter_of who said e = if is_text e.sender own_name then own_letter e
    else record { from = who; said = record said { message = e } }

-- a queue took more bytes
abbrev pub grew : ℕ → Waiting → Waiting → Bool
grew conn before after = nat_lt (length (queue_of before.queues conn)) (length (queue_of after.queues conn))

-- a delivery stands on the down link where the queue took its bytes
abbrev pub with_letter : (Envelope → Letter) → Waiting → Waiting → Move → List End → List End
with_letter letter before after (delivers conn e) ends = if grew conn before after
    then with_end conn (put_down (letter e)) ends else ends
with_letter letter before after move ends = ends

abbrev pub moved : (Envelope → Letter) → ℕ → Filled → Move → Filled
moved letter quota f move =
    let after = queues.moved quota f.waiting move in
    record { waiting = after; ends = with_letter letter f.waiting after move f.ends }

-- the bus and the ends after a step
abbrev pub stepped : (Envelope → Letter) → Carried → BusStep → Carried
stepped letter c step = record {
  bus = queues.stepped c.bus step;
  ends = (fold (moved letter c.bus.quota) (record { waiting = c.bus.waiting; ends = c.ends }) step.moves).ends;
}

-- a connection leaves: its links are lost, and the others are told
abbrev pub left : Carried → ℕ → Carried
left c conn =
    let without = record c.bus { waiting = without_queue c.bus.waiting conn } in
    stepped own_letter (record { bus = without; ends = with_end conn leaves c.ends }) (bus_leaves c.bus.state conn)

-- the first that is to be closed is closed; those that a closing causes come behind all that were caused earlier
abbrev pub one_closed : Carried → List (ℕ × Why) → Carried
one_closed c [] = c
one_closed c (first ∷ rest) = record { bus = queues.closed c.bus first.0 first.1; ends = (left c first.0).ends }

abbrev pub settled : ℕ → Carried → Carried
settled zero c = c
settled (suc rounds) c = settled rounds (one_closed c c.bus.waiting.due)

-- an end's unique name, once the bus gave it
abbrev pub named : Bus → ℕ → End → End
named b conn e = record e { unique = first_of e.unique (unique_of b.state.owners conn) }

abbrev pub with_name : ℕ → Carried → Carried
with_name conn c = record c { ends = with_end conn (named c.bus conn) c.ends }

-- the bus takes a message of an end
abbrev pub takes : Carried → ℕ → Party → Said → Carried
takes c conn who said =
    settled (length c.bus.state.joined)
    (with_name conn
    (stepped (letter_of who said) (record c { ends = with_end conn taken_up c.ends })
    (bus_takes c.bus.state conn said.message (rule_in said.message))))

-- the bus takes the end of an end
abbrev pub takes_end : Carried → ℕ → Carried
takes_end c conn = settled (length c.bus.state.joined) (left c conn)

-- What is written of it: the bus's own messages in their order, and behind those before a closing that an end was
-- dropped, with the bytes that waited and those of the message. Nothing follows where that was the registry.
abbrev pub dropped_if : Party → Why → List Entry
dropped_if who (Quota queued len) = dropped who queued len ∷ []
dropped_if who NotHello = []

abbrev pub sent_by_bus : List Envelope → List Entry
sent_by_bus own = map (sent The_bus) own

abbrev pub is_upto : ℕ → Envelope → Bool
is_upto serial e = nat_le e.serial serial

abbrev pub bus_entries : List End → List Envelope → List Closing → List Entry
bus_entries ends own [] = sent_by_bus own
bus_entries ends own (closing ∷ closings) =
    sent_by_bus (filter (is_upto closing.after) own)
    ++ (dropped_if (party_at ends closing.conn) closing.why
    ++ (if same_party (party_at ends closing.conn) Registry then []
    else bus_entries ends (filter (λ e. not (is_upto closing.after e)) own) closings))

-- nobody has to ask the bus for what is written
abbrev pub all_told : Bus → Bus
all_told b = record b { own = []; closings = [] }
