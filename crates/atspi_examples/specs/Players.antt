-- Small worlds with two applications and two readers of their own definitions.
use Rattle.std.specs.Prelude.{ℕ, pos, negsuc, List, [], ◌∷◌, drop, Some, None, codes}
use Rattle.atspi_trace_events.specs.declared.shown.ShownRow.{ShownRow}
use Rattle.atspi_tree_model.specs.declared.view.Row.{Row}
use Rattle.atspi_tree_model.specs.Forest.{Forest, nil, tree}
use Rattle.atspi_script_lines.specs.declared.deed.Deed.{Deed}
use Rattle.atspi_script_lines.specs.declared.deed.Deed.TheVariants.{SetCaret}
use Rattle.atspi_script_lines.specs.declared.line.Party.TheVariants.{App, Reader}
use Rattle.atspi_message.specs.Envelope.{Envelope}
use Rattle.atspi_protocol.specs.declared.following.question.Question.{Question}
use Rattle.atspi_protocol.specs.declared.following.question.Question.TheVariants.{Hello, AddMatch}
use Rattle.atspi_protocol.specs.exporting.Exporter.{begins as begins_app}
use Rattle.atspi_protocol.specs.following.ReaderState.{Done, ReaderState, begins, start_calls}
use Rattle.atspi_protocol.specs.following.Calls.{asking, user_call}
use Rattle.atspi_protocol.specs.following.Cases.{returned, owner_changed}
use Rattle.atspi_match.specs.routing.Queues.{Bus}
use Rattle.atspi_types.specs.Data.{text_data}
use Rattle.atspi_trace.specs.World as fate
use Rattle.atspi_trace.specs.World.{stopped, Fate, Asked, Hearer, a_reader, an_application, Said, Letter, End, World}
use Rattle.atspi_trace.specs.World.{first_registry, newcomer}
use Rattle.atspi_trace.specs.Ends.{plain}
use Rattle.atspi_trace.specs.play.Playing.{Playing}
use Rattle.atspi_examples.specs.Seen.{path, row}
use Rattle.atspi_examples.specs.Turning.{held, letter}

-- a view of two rows, and how they are shown
abbrev pub two_rows : Forest Row
two_rows = tree (row 0) (tree (row 1) nil nil) nil

abbrev pub two_shown : List ShownRow
two_shown = record { parent = None; index = negsuc 0; row = row 0 }
    ∷ record { parent = Some (path 0); index = pos 0; row = row 1 } ∷ []

-- a reader whose start is over and who holds this view of the application `:1.1`; its next message has the serial 21
abbrev pub holder : ReaderState
holder =
    record begins { to_come = []; apps = record held { name = codes ":1.1"; view = Some two_rows } ∷ []; next = 21 }

-- the same with something that nobody took yet
abbrev pub loud : List Done → ReaderState
loud out = record holder { out = out }

-- two applications, of which the second has its unique name
abbrev pub nameless_app : End
nameless_app = newcomer (App 0) (an_application (begins_app (codes "T")))

abbrev pub named_app : End
named_app = record (newcomer (App 1) (an_application (begins_app (codes "T")))) { unique = Some (codes ":1.1") }

-- two readers, of which the second has these messages on its link
abbrev pub idle_reader : End
idle_reader = newcomer (Reader 0) (a_reader (record { asked = []; next = 5; registry = None; named = []; holds = [] }))

abbrev pub hearer : List Asked → ℕ → Hearer
hearer asked next = record { asked = asked; next = next; registry = None; named = []; holds = [] }

abbrev pub busy_reader : Hearer → List Letter → End
busy_reader h letters = record (newcomer (Reader 1) (a_reader h)) { down = letters }

-- the ends in order of joining: the registry, the applications at 1 and 2, the readers at 3 and 4
abbrev pub five_ends : End → List End
five_ends reader = first_registry ∷ nameless_app ∷ named_app ∷ idle_reader ∷ reader ∷ []

abbrev pub world : Bus → End → World
world b reader = record { bus = b; ends = five_ends reader; swaps = 0 }

-- a reader's Hello, by what became of it, and the return to it
abbrev pub asked_hello : Fate → Asked
asked_hello fate = record { serial = 1; question = Hello; fate = fate }

abbrev pub hello_returned : Letter
hello_returned =
    letter (record (returned 1 (codes "org.freedesktop.DBus") (text_data (codes ":1.4") ∷ [])) { serial = 33 })

-- the news that nobody has the second application's name any more
abbrev pub end_of_named : Letter
end_of_named =
    letter (record (owner_changed (codes "org.freedesktop.DBus") (codes ":1.1") (codes ":1.1") []) { serial = 34 })

-- the first rule of a reader's start; a reader whose Hello waits, with nine calls of its start to come; and one whose
-- first rule does
abbrev pub first_rule : Question
first_rule = AddMatch (codes "type='signal',interface='org.freedesktop.DBus',member='NameOwnerChanged'")

abbrev pub hello_waits : ReaderState
hello_waits =
    record begins { to_come = drop 1 start_calls; pending = Some (record { serial = 1; question = Hello }); next = 2 }

abbrev pub rule_waits : ReaderState
rule_waits =
    record begins
    { to_come = drop 2 start_calls; pending = Some (record { serial = 2; question = first_rule }); next = 3 }

-- their ends: the first with these messages on its link; the second with its call on its up link
abbrev pub hello_waits_at : List Letter → End
hello_waits_at letters = busy_reader (hearer (asked_hello fate.waits ∷ []) 2) letters

abbrev pub rule_waits_at : End
rule_waits_at =
    record (busy_reader
    (hearer (asked_hello fate.returned ∷ record { serial = 2; question = first_rule; fate = fate.waits } ∷ [])
    3) []) {
      up = plain (asking 2 first_rule) ∷ [];
    }

-- a reader that just started
abbrev pub new_reader : End
new_reader =
    record (newcomer (Reader 2) (a_reader (hearer (asked_hello fate.waits ∷ []) 2)))
    { up = plain (asking 1 Hello) ∷ [] }

abbrev pub starting_world : Bus → List Letter → World
starting_world b letters = world b (hello_waits_at letters)

abbrev pub resting_world : Bus → List Letter → World
resting_world b letters = world b (busy_reader (hearer [] 21) letters)

-- where the registry has a message to take
abbrev pub registry_world : Bus → World
registry_world b = record (starting_world b []) {
  ends = record first_registry { down = hello_returned ∷ [] } ∷ nameless_app ∷ named_app ∷ idle_reader
      ∷ hello_waits_at [] ∷ [];
}

-- a user's call
abbrev pub caret : Deed
caret = SetCaret 2

abbrev pub caret_call : Envelope
caret_call = user_call 21 (codes ":1.1") 1 caret

-- the first reader knows nothing; the second is in this state
abbrev pub playing : World → ReaderState → Playing
playing w second = record { world = w; readers = begins ∷ second ∷ [] }

-- the second reader, which holds the second application; and the same, stopped
abbrev pub at_rest : Bus → Playing
at_rest b = playing (resting_world b []) holder

abbrev pub halted : Bus → Playing
halted b = playing (world b (record (busy_reader (hearer [] 21) []) { standing = stopped })) holder

-- where the second application stopped
abbrev pub exited_world : Bus → World
exited_world b = record (resting_world b []) {
  ends = first_registry ∷ nameless_app ∷ record named_app { standing = stopped } ∷ idle_reader
      ∷ busy_reader (hearer [] 21) [] ∷ [];
}

-- where so many bytes were moved of the message that waits on the second reader's up link
abbrev pub bytes_world : Bus → Said → ℕ → World
bytes_world b said moved = world b (record (busy_reader (hearer [] 21) []) { up = said ∷ []; up_moved = moved })
