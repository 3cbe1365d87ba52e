-- THE CURSOR of a reader in the text of a node: the fold of what its unit lines leave, of the changes of that text as
-- the reader takes them, and of the application's end. A text that was not read yet has its cursor at its start, and no
-- change moves it from there.
use Rattle.std.specs.Prelude.{ℕ, pos, ◌==◌, ◌&&◌, List, [], ◌∷◌, ◌++◌, length, bytes_eq, Option, None, Some}
use Rattle.std.specs.Prelude.{if◌then◌else◌}
use Rattle.atspi_tree_model.specs.Forest.{first_of}
use Rattle.atspi_tree_model.specs.Path.{path_of}
use Rattle.atspi_tree_model.specs.declared.news.News.{News}
use Rattle.atspi_tree_model.specs.declared.news.News.TheVariants.{Inserted, Deleted}
use Rattle.atspi_script_lines.specs.declared.line.Party.{Party}
use Rattle.atspi_script_lines.specs.declared.line.Party.TheVariants.{App, Reader}
use Rattle.atspi_message.specs.Envelope.{Envelope, envelope_of}
use Rattle.atspi_protocol.specs.news.NewsOf.{news_of}
use Rattle.atspi_cursors.specs.Moves.{after_insertion, after_deletion}
use Rattle.atspi_cursors.specs.declared.reading.Reading.{Reading}
use Rattle.atspi_trace_events.specs.declared.event.Event.{Event}
use Rattle.atspi_trace_events.specs.declared.event.Event.TheVariants.{Sent, Got, Gone}
use Rattle.atspi_trace.specs.Ends.{same_party}
use Rattle.atspi_browse.specs.declared.line.UnitLine.{UnitLine}

-- what happens in a world that is browsed: an event of a trace, or a unit line with the text and what was read in it
pub data Happening : Type 0 where
  event : Event → Happening
  unit : UnitLine → List ℕ → Option Reading → Happening

-- what that is to one cursor: it was put somewhere; characters were put into its text, so many at a place, or taken
-- out; the application ended; nothing
pub data Moment : Type 0 where
  put : ℕ → Moment
  inserted : ℕ → ℕ → Moment
  deleted : ℕ → ℕ → Moment
  ended : Moment
  other : Moment

abbrev pub moved : ℕ → Moment → ℕ
moved cursor (put place) = place
moved cursor (inserted at count) = after_insertion cursor at count
moved cursor (deleted at count) = after_deletion cursor at count
moved cursor ended = 0
moved cursor other = cursor

abbrev pub cursor_behind : ℕ → List Moment → ℕ
cursor_behind cursor [] = cursor
cursor_behind cursor (m ∷ ms) = cursor_behind (moved cursor m) ms

-- the last message of an end with this serial
abbrev pub sent_with : Party → ℕ → Happening → Option Envelope
sent_with who serial (event (Sent sender message)) =
    if same_party sender who && (message.serial == serial) then Some (envelope_of message) else None
sent_with who serial h = None

abbrev pub message_sent : Party → ℕ → List Happening → Option Envelope
message_sent who serial [] = None
message_sent who serial (h ∷ rest) = first_of (message_sent who serial rest) (sent_with who serial h)

-- what a message tells of the text of a node; places and counts that are below 0 tell of none
abbrev pub of_news : List ℕ → News → Moment
of_news path (Inserted p (pos at) text) = if bytes_eq p path then inserted at (length text) else other
of_news path (Deleted p (pos at) (pos count) text) = if bytes_eq p path then deleted at count else other
of_news path news = other

abbrev pub of_message : List ℕ → Option Envelope → Moment
of_message path None = other
of_message path (Some e) = of_news path (news_of [] e)

-- where a reading leaves the cursor: where nothing was read it stays
abbrev pub of_reading : Option Reading → Moment
of_reading None = other
of_reading (Some reading) = put reading.cursor

-- A HAPPENING, to the cursor of a reader in the text of an application's node, behind what happened before it
abbrev pub moment : ℕ → ℕ → ℕ → List Happening → Happening → Moment
moment r a n before (unit l text reading) =
    if (l.reader == r) && ((l.app == a) && (l.node == n)) then of_reading reading else other
moment r a n before (event (Got taker sender serial)) =
    if same_party taker (Reader r) && same_party sender (App a) then
    of_message (path_of n) (message_sent (App a) serial before) else other
moment r a n before (event (Gone reader app)) = if (reader == r) && (app == a) then ended else other
moment r a n before (event e) = other

abbrev pub moments : ℕ → ℕ → ℕ → List Happening → List Happening → List Moment
moments r a n before [] = []
moments r a n before (h ∷ rest) = moment r a n before h ∷ moments r a n (before ++ h ∷ []) rest

-- the cursor behind all that happened
abbrev pub cursor : ℕ → ℕ → ℕ → List Happening → ℕ
cursor r a n happened = cursor_behind 0 (moments r a n [] happened)
