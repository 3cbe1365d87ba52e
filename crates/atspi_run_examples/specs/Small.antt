-- A registry and a reader whose next message has the serial 4,294,967,296, one above the last; and what a line came to
-- that was broken off.
use Rattle.std.specs.Prelude.{List, [], ◌∷◌, None, Some, codes, drop, false, true}
use Rattle.atspi_trace_events.specs.declared.event.Event.TheVariants.{Got, Quiet}
use Rattle.atspi_trace_texts.specs.declared.options.TraceOptions.{TraceOptions}
use Rattle.atspi_script_lines.specs.declared.deed.Deed.TheVariants.{SetCaret}
use Rattle.atspi_script_lines.specs.declared.line.Party.TheVariants.{Bus as The_bus, Reader, Registry}
use Rattle.atspi_message.specs.Envelope.{Envelope}
use Rattle.atspi_protocol.specs.declared.following.question.Question.TheVariants.{Hello}
use Rattle.atspi_protocol.specs.following.Calls.{user_call}
use Rattle.atspi_protocol.specs.following.Cases.{returned}
use Rattle.atspi_protocol.specs.following.ReaderState.{begins, start_calls}
use Rattle.atspi_match.specs.routing.Queues.{Bus}
use Rattle.atspi_trace.specs.Entry.{Entry}
use Rattle.atspi_trace.specs.World.{waits, a_reader, Hearer, Letter, End, World, first_registry, newcomer}
use Rattle.atspi_trace.specs.Ends.{plain, stops}
use Rattle.atspi_trace.specs.Causes.{Cause, calls, gets}
use Rattle.atspi_trace.specs.Work.{Work}
use Rattle.atspi_trace.specs.play.Playing.{Playing}
use Rattle.atspi_trace.specs.play.Plays.{plays}
use Rattle.atspi_run_replay.specs.declared.naming.Halt.{Halt}
use Rattle.atspi_run_replay.specs.Done.{BreaksOff, IsReached}
use Rattle.atspi_run_replay.specs.Told.{Told}

abbrev pub hearer : Hearer
hearer = record { asked = []; next = 4294967296; registry = None; named = []; holds = [] }

-- the reader: before the bus gave it its name, and then
abbrev pub nameless_reader : End
nameless_reader = newcomer (Reader 0) (a_reader hearer)

abbrev pub last_reader : End
last_reader = record nameless_reader { unique = Some (codes ":1.1") }

abbrev pub with_ends : Bus → List End → World
with_ends b ends = record { bus = b; ends = ends; swaps = 0 }

abbrev pub two_ends : Bus → World
two_ends b = with_ends b (first_registry ∷ last_reader ∷ [])

abbrev pub nameless : Bus → World
nameless b = with_ends b (first_registry ∷ nameless_reader ∷ [])

-- where one of them stopped
abbrev pub registry_stopped : Bus → World
registry_stopped b = with_ends b (stops first_registry ∷ last_reader ∷ [])

abbrev pub reader_stopped : Bus → World
reader_stopped b = with_ends b (first_registry ∷ stops last_reader ∷ [])

-- the reader's user asks for the caret of a node to be set; and where that call waits on the reader's up link
abbrev pub last_call : Cause
last_call = calls 1 (codes ":1.2") 1 (SetCaret 2)

abbrev pub call_message : Envelope
call_message = user_call 4294967296 (codes ":1.2") 1 (SetCaret 2)

abbrev pub caller : End
caller = record last_reader { role = a_reader (record hearer { next = 4294967297 }); up = plain call_message ∷ [] }

abbrev pub call_waits : Bus → World
call_waits b = with_ends b (first_registry ∷ caller ∷ [])

-- the world with the reader's own state
abbrev pub playing : Bus → Playing
playing b = record { world = two_ends b; readers = record begins { to_come = []; next = 4294967296 } ∷ [] }

-- in such a world some of what is left of a line was done and wrote these entries, it was broken off, and this world
-- was reached
abbrev pub Reaches : Halt → Playing → Work → List Entry → World → Type 0
Reaches why p left entries w = (breaks : BreaksOff why p left entries) × IsReached why p left entries breaks w

-- a reader that waits for the return to its Hello, with these letters on its link; one of two that return nothing; and
-- the world behind the first
abbrev pub waiting_hearer : Hearer
waiting_hearer =
    record {
      asked = record { serial = 1; question = Hello; fate = waits } ∷ [];
      next = 2;
      registry = None;
      named = [];
      holds = [];
    }

abbrev pub waiting_reader : List Letter → End
waiting_reader letters = record (newcomer (Reader 0) (a_reader waiting_hearer)) { down = letters }

abbrev pub letter : Letter
letter = record { from = The_bus; said = plain (record (returned 1 (codes "org.freedesktop.DBus") []) { serial = 33 }) }

abbrev pub with_letters : Bus → List Letter → Playing
with_letters b letters = record {
  world = with_ends b (first_registry ∷ waiting_reader letters ∷ []);
  readers =
      record begins
      { to_come = drop 9 start_calls; pending = Some (record { serial = 1; question = Hello }); next = 2 } ∷ [];
}

abbrev pub two_letters : Bus → Playing
two_letters b = with_letters b (letter ∷ letter ∷ [])

abbrev pub one_taken : Bus → Playing
one_taken b = (plays (two_letters b) (gets 1)).now

-- what is asked for of a trace: all events or those of the brief text, with bytes or without
abbrev pub all : TraceOptions
all = record { brief = false; wire = false }

abbrev pub brief : TraceOptions
brief = record { brief = true; wire = false }

abbrev pub wire : TraceOptions
wire = record { brief = false; wire = true }

abbrev pub brief_wire : TraceOptions
brief_wire = record { brief = true; wire = true }

-- that nothing waits was told; and that the bus took a message of the registry's, with two bytes for those of the
-- message
abbrev pub quiet_told : Told
quiet_told = record { event = Quiet; bytes = [] }

abbrev pub letter_told : Told
letter_told = record { event = Got The_bus Registry 5; bytes = 108 ∷ 1 ∷ [] }
