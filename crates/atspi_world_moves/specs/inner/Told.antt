-- What a bus has to tell, put into a trace: its own messages, and behind those before it each closing; and what leaving
-- does to connections.
use Rattle.std.specs.Prelude.{◌≡◌, ℕ, false, List, [], ◌∷◌, ◌++◌, map, Option, None, Some, option_to_list, slice_get}
use Rattle.std.specs.Prelude.{if◌then◌else◌}
use Rattle.std.specs.List.{AllByRecursion}
use Rattle.atspi_message.specs.Envelope.{Envelope, envelope_of}
use Rattle.atspi_message.specs.declared.message.Message.{Message}
use Rattle.atspi_script_lines.specs.declared.line.Party.{Party}
use Rattle.atspi_script_lines.specs.declared.line.Party.TheVariants.{Bus as The_bus, Registry}
use Rattle.atspi_match.specs.declared.routing.closing.Closing.{Closing}
use Rattle.atspi_match.specs.routing.Queues.{Bus}
use Rattle.atspi_world_links.specs.declared.post.Post.{Post}
use Rattle.atspi_world_links.specs.declared.post.Standing.TheVariants.{Away}
use Rattle.atspi_trace.specs.Entry.{Entry}
use Rattle.atspi_trace.specs.Ends.{same_party}
use Rattle.atspi_trace.specs.Carrying.{sent_by_bus, dropped_if, is_upto}
use Rattle.atspi_world_links.specs.Changes.{changed_at}

-- a connection that left, and what its end was given
abbrev pub gone : Post → Post
gone p = record p { standing = Away; up = []; begun = 0 }

abbrev pub emptied : List ℕ → List ℕ
emptied given = []

-- those that were closed are gone
abbrev pub all_gone : List Closing → List Post → List Post
all_gone [] posts = posts
all_gone (c ∷ cs) posts = all_gone cs (changed_at c.conn gone posts)

abbrev pub all_emptied : List Closing → List (List ℕ) → List (List ℕ)
all_emptied [] given = given
all_emptied (c ∷ cs) given = all_emptied cs (changed_at c.conn emptied given)

-- the party of a connection
abbrev pub or_bus : Option Party → Party
or_bus None = The_bus
or_bus (Some who) = who

abbrev pub whose : Post → Party
whose p = p.who

abbrev pub party_in : List Party → ℕ → Party
party_in parties conn = or_bus (slice_get parties conn)

-- closings of others than the registry
abbrev pub IsOther : List Party → Closing → Type 0
IsOther parties c = same_party (party_in parties c.conn) Registry ≡ false

abbrev pub AreOthers : List Party → List Closing → Type 0
AreOthers parties closings = AllByRecursion (IsOther parties) closings

-- a message that was asked for, before those that were not
abbrev pub ahead : Option Message → Bus → List Envelope
ahead first b = map envelope_of (option_to_list first) ++ b.own

-- the messages in front up to a serial, and all behind them
abbrev pub front_upto : ℕ → List Envelope → List Envelope
front_upto serial [] = []
front_upto serial (e ∷ es) = if is_upto serial e then e ∷ front_upto serial es else []

abbrev pub behind_upto : ℕ → List Envelope → List Envelope
behind_upto serial [] = []
behind_upto serial (e ∷ es) = if is_upto serial e then behind_upto serial es else e ∷ es

-- what is told of own messages and closings; nothing behind the end of the registry
abbrev pub bus_told : List Party → List Envelope → List Closing → List Entry
bus_told parties own [] = sent_by_bus own
bus_told parties own (c ∷ cs) =
    sent_by_bus (front_upto c.after own)
    ++ (dropped_if (party_in parties c.conn) c.why
    ++ (if same_party (party_in parties c.conn) Registry then [] else bus_told parties (behind_upto c.after own) cs))
