-- Scripts, worlds and traces of the worked cases.
use Rattle.std.specs.Prelude.{ℕ, zero, suc, ℤ, pos, negsuc, ◌==◌, Bool, true, false, List, [], ◌∷◌, length, map}
use Rattle.std.specs.Prelude.{bytes_eq, Option, None, Some, option_map, codes}
use Rattle.atspi_types.specs.Data.{text_data}
use Rattle.std.specs.FinMap as finmap
use Rattle.atspi_tree_model.specs.declared.edit.Edit.TheVariants.{Insert, State, Name}
use Rattle.atspi_tree_model.specs.declared.step.Seed.{Seed}
use Rattle.atspi_tree_model.specs.declared.step.Step.{Step}
use Rattle.atspi_tree_model.specs.declared.step.Step.TheVariants.{Add, Move, Remove, SetName, SetState}
use Rattle.atspi_tree_model.specs.Forest.{Forest}
use Rattle.atspi_tree_model.specs.Row.{TreeRow}
use Rattle.atspi_tree_model.specs.RowRules.{rows}
use Rattle.atspi_tree_model.specs.Tree.{first_tree, after}
use Rattle.atspi_tree_model.specs.Path.{path_of}
use Rattle.atspi_tree_model.specs.declared.view.Part.TheVariants.{Absent}
use Rattle.atspi_tree_model.specs.declared.view.NumPart.TheVariants.{Absent as No_number}
use Rattle.atspi_trace_events.specs.declared.shown.ShownRow.{ShownRow}
use Rattle.atspi_script_lines.specs.declared.limits.TheConstants.{QUOTA_MOST}
use Rattle.atspi_script_lines.specs.declared.line.Line.{Line}
use Rattle.atspi_script_lines.specs.declared.line.Line.TheVariants.{App as App_line, Edit as Edit_line, Exit, Turns}
use Rattle.atspi_script_lines.specs.declared.line.Line.TheVariants.{Drain, Show}
use Rattle.atspi_script_lines.specs.declared.line.Party.{Party}
use Rattle.atspi_script_lines.specs.declared.line.Party.TheVariants.{Bus as The_bus, App, Reader}
use Rattle.atspi_message.specs.Envelope.{Envelope}
use Rattle.atspi_protocol.specs.ends.Places.{bus, bus_path}
use Rattle.atspi_protocol.specs.ends.Messages.{call_to, signal_of, return_to}
use Rattle.atspi_names.specs.Owners.{Owners}
use Rattle.atspi_match.specs.routing.BusState.{BusState}
use Rattle.atspi_match.specs.routing.OwnMessages.{return_to as return_of_bus}
use Rattle.atspi_protocol.specs.registering.RegistryState.{begins as no_registry}
use Rattle.atspi_protocol.specs.registering.Steps.{registry_starts, registry_takes}
use Rattle.atspi_match.specs.routing.Members.{is_text}
use Rattle.atspi_match.specs.routing.Queues.{Bus, joins}
use Rattle.atspi_protocol.specs.announcing.Signals.{Signal}
use Rattle.atspi_protocol.specs.announcing.Announced.{announced}
use Rattle.atspi_protocol.specs.exporting.Exporter.{Exporter, over, begins as begins_app}
use Rattle.atspi_protocol.specs.declared.following.question.Question.TheVariants.{GetItems}
use Rattle.atspi_protocol.specs.following.Calls.{asking}
use Rattle.atspi_trace.specs.Entry.{Entry, started, changed, sent, got, spoke, showed, gone, quiet}
use Rattle.atspi_trace.specs.Rules.{owner_rule, cache_rule, event_rule}
use Rattle.atspi_trace.specs.World.{stopped, away, Fate, waits, returned, Asked, Hearer, Role, the_registry}
use Rattle.atspi_trace.specs.World.{an_application, a_reader, Said, Letter, End, World, first_bus, first_registry}
use Rattle.atspi_trace.specs.World.{newcomer}
use Rattle.atspi_trace.specs.Ends.{with_end, plain, stops}
use Rattle.atspi_trace.specs.Work.{resting}
use Rattle.atspi_trace.specs.Due.{Scene, due, happens}

-- What is due, so many entries at most, one behind the other
abbrev pub due_and : (Scene → List Entry) → Scene → Option Entry → List Entry
due_and next s None = []
due_and next s (Some entry) = entry ∷ next (happens s entry)

abbrev pub due_entries : ℕ → Scene → List Entry
due_entries zero s = []
due_entries (suc n) s = due_and (λ t. due_entries n t) s (due s)

-- an application alone: it starts, a button is put into it, and the button gets the focus
abbrev pub button : Seed
button =
    record { role = 43; name = codes "OK"; text = None; editable = false; columns = None; select = false; actions = [] }

abbrev pub alone : List Line
alone = App_line (codes "Demo") ∷ Edit_line 0 (Insert 0 0 button) ∷ Edit_line 0 (State 1 12 true) ∷ []

abbrev pub hello : Envelope
hello = record (call_to bus bus_path bus (codes "Hello") []) { serial = 1 }

abbrev pub alone_trace : List Entry
alone_trace =
    started (App 0) (Some (codes "Demo")) ∷ sent (App 0) hello ∷ changed 0 (Add 1 0 0 button)
    ∷ changed 0 (SetState 1 12 true) ∷ []

-- entries in brief: of a message sent its member, its serial and who sent it; a return has no member
pub data Brief : Type 0 where
  a_start : Party → Brief
  a_step : Step → Brief
  a_message : Party → Option (List ℕ) → ℕ → Brief
  a_got : Party → Party → ℕ → Brief
  another : Brief

abbrev pub brief : Entry → Brief
brief (started who name) = a_start who
brief (changed app step) = a_step step
brief (sent who e) = a_message who e.member e.serial
brief (got taker sender serial) = a_got taker sender serial
brief entry = another

abbrev pub in_brief : List Entry → List Brief
in_brief entries = map brief entries

-- A world in mid-run: the registry, an application `:1.1` and a reader `:1.2` that holds it. Its tree is a root with a
-- focused button, which then gets another name
abbrev pub bare_tree : Forest TreeRow
bare_tree = first_tree rows (codes "T")

abbrev pub with_button : Forest TreeRow
with_button = after rows (after rows bare_tree (Add 1 0 0 button)) (SetState 1 12 true)

abbrev pub renaming : Step
renaming = SetName 1 (codes "Save")

abbrev pub renamed : Forest TreeRow
renamed = after rows with_button renaming

abbrev pub app_state : Forest TreeRow → List (List ℕ × List ℕ) → Exporter
app_state f pairs = record (begins_app (codes "T")) {
  tree = f;
  added = 1;
  name = Some (codes ":1.1");
  heard = pairs;
  phase = over;
  next = 8;
}

abbrev pub app_end : Exporter → End
app_end s = record (newcomer (App 0) (an_application s)) { unique = Some (codes ":1.1") }

abbrev pub reader_end : Hearer → List Letter → End
reader_end h letters = record (newcomer (Reader 0) (a_reader h)) { unique = Some (codes ":1.2"); down = letters }

-- the reader's call for items was answered, and it holds this tree; or its call waits, and it holds nothing
abbrev pub asked_items : Fate → Asked
asked_items fate = record { serial = 11; question = GetItems (codes ":1.1"); fate = fate }

abbrev pub holding : Forest TreeRow → Hearer
holding f =
    record {
      asked = asked_items returned ∷ [];
      next = 12;
      registry = None;
      named = [];
      holds = record { app = 0; tree = f; last = 6; told = [] } ∷ [];
    }

abbrev pub holding_none : Hearer
holding_none = record { asked = asked_items waits ∷ []; next = 12; registry = None; named = []; holds = [] }

abbrev pub world : Exporter → Hearer → List Letter → World
world s h letters =
    record { bus = first_bus QUOTA_MOST; ends = first_registry ∷ app_end s ∷ reader_end h letters ∷ []; swaps = 0 }

abbrev pub scene : World → List Line → Scene
scene w lines = record { world = w; owing = []; free = None; work = resting; left = lines; passed = [] }

-- the announcement of a step, as it comes from the application with a serial
abbrev pub first_message : List Signal → Envelope
first_message [] = signal_of [] [] [] []
first_message (signal ∷ signals) = signal.message

abbrev pub announcing : Forest TreeRow → Step → ℕ → Letter
announcing f step serial = record {
  from = App 0;
  said = record {
    message =
        record (first_message (announced (codes ":1.1") f step)) { serial = serial; sender = Some (codes ":1.1") };
    tree = after rows f step;
    announces = Some step;
  };
}

-- the return to the reader's call for items, with the tree as of its sending
abbrev pub items_of_tree : Forest TreeRow → ℕ → Letter
items_of_tree f serial = record {
  from = App 0;
  said =
      record {
        message = record (return_to (codes ":1.2") 11 []) { serial = serial; sender = Some (codes ":1.1") };
        tree = f;
        announces = None;
      };
}

-- the bus's news that nobody has the application's unique name any more
abbrev pub end_of_app : Letter
end_of_app = record {
  from = The_bus;
  said =
      plain
      (record (signal_of bus_path bus (codes "NameOwnerChanged")
      (text_data (codes ":1.1") ∷ text_data (codes ":1.1") ∷ text_data [] ∷ [])) {
        serial = 30;
        sender = Some bus;
      });
}

-- lines: one turn, or so many, and then the reader shows the application
abbrev pub turns_and_show : ℕ → List Line
turns_and_show n = Turns n ∷ Show 0 0 ∷ []

-- patterns that the reader registered
abbrev pub properties : List ℕ × List ℕ
properties = (codes ":1.2", codes "object:property-change")

abbrev pub children : List ℕ × List ℕ
children = (codes ":1.2", codes "object:children-changed")

-- a new node with this name and role
abbrev pub seed : ℕ → List ℕ → Seed
seed role name = record button { role = role; name = name }

-- a row as it is shown: the node's number, its parent's and its index, its name, role and states
abbrev pub row : ℕ → Option ℕ → ℤ → List ℕ → ℕ → ℕ → ShownRow
row n parent index name role states = record {
  parent = option_map path_of parent;
  index = index;
  row = record {
    path = path_of n;
    name = name;
    description = [];
    role = role;
    states = states;
    faces = 0;
    text = Absent;
    caret = No_number;
    columns = No_number;
  };
}

-- enabled, sensitive, showing and visible, as each new node is
abbrev pub usual : ℕ
usual = 1124073728

abbrev pub root_row : ShownRow
root_row = row 0 None (negsuc 0) (codes "T") 75 usual

-- The race: the reader's call for items is on its way to the application while that adds a second button and renames
-- the first
abbrev pub one_button : Forest TreeRow
one_button = after rows bare_tree (Add 1 0 0 (seed 43 (codes "One")))

abbrev pub adding_two : Step
adding_two = Add 2 0 1 (seed 43 (codes "Two"))

abbrev pub two_buttons : Forest TreeRow
two_buttons = after rows one_button adding_two

abbrev pub renaming_one : Step
renaming_one = SetName 1 (codes "Uno")

abbrev pub race : Scene
race =
    scene
    (world (app_state (after rows two_buttons renaming_one) []) holding_none
    (announcing one_button adding_two 5 ∷ items_of_tree two_buttons 6 ∷ announcing two_buttons renaming_one 7 ∷ []))
    (Turns 1 ∷ Show 0 0 ∷ Turns 1 ∷ Show 0 0 ∷ Turns 1 ∷ Show 0 0 ∷ [])

abbrev pub race_rows : List ℕ → List ShownRow
race_rows name = root_row ∷ row 1 (Some 0) (pos 0) name 43 usual ∷ row 2 (Some 0) (pos 1) (codes "Two") 43 usual ∷ []

-- Reparenting: a panel with a label below it goes below another panel
abbrev pub panels : Forest TreeRow
panels =
    after rows (after rows (after rows bare_tree (Add 1 0 0 (seed 39 (codes "A")))) (Add 2 0 1 (seed 39 (codes "B"))))
    (Add 3 1 0 (seed 29 (codes "x")))

abbrev pub reparenting : Step
reparenting = Move 1 2 0

abbrev pub moved_panels : Forest TreeRow
moved_panels = after rows panels reparenting

abbrev pub panel_rows : List ShownRow
panel_rows =
    root_row ∷ row 2 (Some 0) (pos 0) (codes "B") 39 usual ∷ row 1 (Some 2) (pos 0) (codes "A") 39 usual
    ∷ row 3 (Some 1) (pos 0) (codes "x") 29 usual ∷ []

-- Removal: the first panel goes, and the label with it
abbrev pub removing : Step
removing = Remove 1

abbrev pub left_panels : List ShownRow
left_panels = root_row ∷ row 2 (Some 0) (pos 0) (codes "B") 39 usual ∷ []

-- the scenes of the two: the announcement waits for the reader, which takes it and shows what it holds
abbrev pub step_scene : Forest TreeRow → Step → Scene
step_scene f step =
    scene (world (app_state (after rows f step) []) (holding f) (announcing f step 7 ∷ [])) (turns_and_show 1)

-- THE BUS, with its maps written out: three ends have their names, and the reader its rules
abbrev pub three_unique : List (ℕ × List ℕ)
three_unique = (0, codes ":1.0") ∷ (1, codes ":1.1") ∷ (2, codes ":1.2") ∷ []

abbrev pub three_lists : List (List ℕ × List (ℕ × ℕ))
three_lists =
    (codes ":1.0", (0, 0) ∷ []) ∷ (codes ":1.1", (1, 0) ∷ []) ∷ (codes ":1.2", (2, 0) ∷ [])
    ∷ (codes "org.a11y.atspi.Registry", (0, 4) ∷ []) ∷ []

abbrev pub three_queues : List (ℕ × List ℕ)
three_queues = (0, []) ∷ (1, []) ∷ (2, []) ∷ []

abbrev pub three_owners : Owners
three_owners = record { given = 3; unique = finmap.from_sorted three_unique; lists = finmap.from_sorted three_lists }

abbrev pub three_bus : ℕ → Bus
three_bus quota = record (first_bus quota) {
  state = record {
    joined = 0 ∷ 1 ∷ 2 ∷ [];
    owners = three_owners;
    rules = (0, owner_rule) ∷ (2, owner_rule) ∷ (2, cache_rule) ∷ (2, event_rule) ∷ [];
    calls = [];
    next = 30;
  };
  waiting = record { queues = finmap.from_sorted three_queues; due = [] };
}

-- the application's announcement waits on its up link
abbrev pub announced_up : Said
announced_up =
    record {
      message = record (first_message (announced (codes ":1.1") with_button renaming)) { serial = 7 };
      tree = renamed;
      announces = Some renaming;
    }

abbrev pub app_that_told : End
app_that_told = record (app_end (app_state renamed [])) { up = announced_up ∷ [] }

abbrev pub bus_world : ℕ → World
bus_world quota =
    record {
      bus = three_bus quota;
      ends = first_registry ∷ app_that_told ∷ reader_end (holding with_button) [] ∷ [];
      swaps = 0;
    }

-- a reader that stopped waits on its up link
abbrev pub stopped_reader : End
stopped_reader = record (reader_end (holding with_button) []) { standing = stopped }

abbrev pub leaving_world : ℕ → World
leaving_world quota =
    record {
      bus = three_bus quota;
      ends = first_registry ∷ app_end (app_state with_button []) ∷ stopped_reader ∷ [];
      swaps = 0;
    }

-- an application says Hello
abbrev pub greeting_world : World
greeting_world = record {
  bus = joins (first_bus QUOTA_MOST) 1;
  ends = first_registry ∷ record (newcomer (App 0) (an_application (begins_app (codes "T")))) { up = plain hello ∷ [] }
      ∷ [];
  swaps = 0;
}

abbrev pub greeted_brief : List Brief
greeted_brief =
    a_got The_bus (App 0) 1 ∷ a_message The_bus None 8 ∷ a_message The_bus (Some (codes "NameAcquired")) 9
    ∷ a_message The_bus (Some (codes "NameOwnerChanged")) 10 ∷ []

-- the application is there, and its reader holds it
abbrev pub exiting_world : World
exiting_world =
    record {
      bus = three_bus QUOTA_MOST;
      ends = first_registry ∷ app_end (app_state with_button []) ∷ reader_end (holding with_button) [] ∷ [];
      swaps = 0;
    }

abbrev pub exit_and_turn : List Line
exit_and_turn = Exit 0 ∷ Turns 1 ∷ []

-- it stopped there, and the bus was not told yet
abbrev pub stopped_world : World
stopped_world = record exiting_world { ends = with_end 1 stops exiting_world.ends }

-- the application left before the reader's call for its items came to the bus
abbrev pub two_unique : List (ℕ × List ℕ)
two_unique = (0, codes ":1.0") ∷ (2, codes ":1.2") ∷ []

abbrev pub two_lists : List (List ℕ × List (ℕ × ℕ))
two_lists = (codes ":1.0", (0, 0) ∷ []) ∷ (codes ":1.2", (2, 0) ∷ []) ∷ (codes "org.a11y.atspi.Registry", (0, 4) ∷ [])
    ∷ []

abbrev pub two_owners : Owners
two_owners = record { given = 3; unique = finmap.from_sorted two_unique; lists = finmap.from_sorted two_lists }

abbrev pub left_state : BusState
left_state = record (three_bus QUOTA_MOST).state { joined = 0 ∷ 2 ∷ []; owners = two_owners }

abbrev pub asking_reader : End
asking_reader =
    record (reader_end (record holding_none { next = 13 }) []) { up = plain (asking 12 (GetItems (codes ":1.1"))) ∷ [] }

abbrev pub late_world : World
late_world = record {
  bus = record (three_bus QUOTA_MOST) { state = left_state };
  ends = first_registry ∷ record (app_end (app_state with_button [])) { standing = away } ∷ asking_reader ∷ [];
  swaps = 0;
}

-- the registry behind its start and the return to its Hello
abbrev pub hello_returned : Envelope
hello_returned = record (return_of_bus (Some (codes ":1.0")) 1 (text_data (codes ":1.0") ∷ [])) { serial = 1 }

abbrev pub registry_started : Role
registry_started = the_registry (registry_takes (registry_starts no_registry).state hello_returned).state

-- WRONG BODIES, each at the entry where its trace goes wrong

-- an application that tells those who did not ask: behind its step
abbrev pub untold : Scene
untold =
    happens
    (scene (world (app_state with_button []) (holding with_button) []) (Edit_line 0 (Name 1 (codes "Save")) ∷ []))
    (changed 0 renaming)

abbrev pub unasked : Entry
unasked = sent (App 0) (record (first_message (announced (codes ":1.1") with_button renaming)) { serial = 8 })

-- an application that sends an echo first: behind its step
abbrev pub adding_more : Step
adding_more = Add 2 0 0 button

abbrev pub telling : Scene
telling =
    happens
    (scene (world (app_state with_button (children ∷ [])) (holding with_button) [])
    (Edit_line 0 (Insert 0 0 button) ∷ [])) (changed 0 adding_more)

abbrev pub others : List Signal → List Signal
others [] = []
others (signal ∷ signals) = signals

abbrev pub announcement_first : Entry
announcement_first =
    sent (App 0) (record (first_message (announced (codes ":1.1") with_button adding_more)) { serial = 8 })

abbrev pub echo_first : Entry
echo_first =
    sent (App 0) (record (first_message (others (announced (codes ":1.1") with_button adding_more))) { serial = 8 })

abbrev pub is_added : Entry → Bool
is_added (sent who e) = is_text e.member (codes "AddAccessible")
is_added entry = false

-- a reader that speaks from before the change: behind the message
abbrev pub speaking : Scene
speaking =
    happens
    (scene (world (app_state renamed []) (holding with_button) (announcing with_button renaming 7 ∷ []))
    (turns_and_show 1))
    (got (Reader 0) (App 0) 7)

abbrev pub is_spoken_as : List ℕ → Entry → Bool
is_spoken_as text (spoke reader app other) = bytes_eq other text
is_spoken_as text entry = false

-- a reader that keeps rows of an application that is gone, or speaks no closing line
abbrev pub ending : Scene
ending =
    happens
    (happens (scene (world (app_state renamed []) (holding with_button) (end_of_app ∷ [])) (turns_and_show 1))
    (got (Reader 0) The_bus 30))
    (gone 0 0)

abbrev pub ended : Scene
ended = happens ending (spoke 0 0 (codes "T, closed"))

abbrev pub shows_none : Entry → Bool
shows_none (showed reader app None) = true
shows_none entry = false

-- a reader that takes a move for a removal and adds the one node, and one that leaves behind what stood below a removed
-- node: behind the message
abbrev pub moving : Scene
moving = happens (step_scene panels reparenting) (got (Reader 0) (App 0) 7)

abbrev pub half_moved : List ShownRow
half_moved = root_row ∷ row 2 (Some 0) (pos 0) (codes "B") 39 usual ∷ row 1 (Some 2) (pos 0) (codes "A") 39 usual ∷ []

abbrev pub removed : Scene
removed = happens (step_scene panels removing) (got (Reader 0) (App 0) 7)

abbrev pub left_behind : List ShownRow
left_behind = root_row ∷ row 2 (Some 0) (pos 0) (codes "B") 39 usual ∷ row 3 (Some 0) (pos 1) (codes "x") 29 usual ∷ []

abbrev pub shows_so_many : ℕ → Entry → Bool
shows_so_many n (showed reader app (Some rows_)) = length rows_ == n
shows_so_many n entry = false

-- a run that tells that nothing waits while a message does; and one that tells it where a reader has asked nothing
abbrev pub waiting : Scene
waiting =
    scene (world (app_state renamed []) (holding with_button) (announcing with_button renaming 7 ∷ [])) (Drain ∷ [])

abbrev pub idle : Scene
idle = scene (world (app_state renamed []) (record holding_none { asked = [] }) []) (Drain ∷ [])

abbrev pub is_quiet : Entry → Bool
is_quiet quiet = true
is_quiet entry = false

-- a bus that serves one sender out of order: the reader takes the second message first
abbrev pub is_got_as : ℕ → Entry → Bool
is_got_as serial (got taker sender other) = other == serial
is_got_as serial entry = false
