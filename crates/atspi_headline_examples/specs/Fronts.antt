-- Fronts of runs, at which is looked what is due next.
use Rattle.std.specs.Prelude.{ℕ, negsuc, List, [], ◌∷◌, ◌++◌, map, None, Some, codes}
use Rattle.atspi_types.specs.Data.{text_data}
use Rattle.atspi_match.specs.routing.OwnMessages.{owner_changed}
use Rattle.atspi_tree_model.specs.declared.step.Seed.{Seed}
use Rattle.atspi_tree_model.specs.declared.step.Step.{Step}
use Rattle.atspi_tree_model.specs.declared.step.Step.TheVariants.{Add, SetName}
use Rattle.atspi_tree_model.specs.declared.view.Part.TheVariants.{Absent}
use Rattle.atspi_tree_model.specs.declared.view.NumPart.TheVariants.{Absent as No_number}
use Rattle.atspi_tree_model.specs.Path.{path_of}
use Rattle.atspi_tree_model.specs.Tree.{root_seed}
use Rattle.atspi_script_lines.specs.declared.line.Line.TheVariants.{Turns}
use Rattle.atspi_script_lines.specs.declared.line.Party.TheVariants.{Bus as The_bus, App, Reader}
use Rattle.atspi_protocol.specs.ends.Messages.{return_to}
use Rattle.atspi_protocol.specs.announcing.Signals.{property_changed}
use Rattle.atspi_protocol.specs.declared.following.question.Question.TheVariants.{Hello, GetItems}
use Rattle.atspi_protocol.specs.following.Calls.{asking}
use Rattle.atspi_trace_events.specs.declared.shown.ShownRow.{ShownRow}
use Rattle.atspi_trace.specs.Entry.{Entry, started, changed, sent, got, heard}
use Rattle.atspi_headline.specs.Words.{Act, begins_line, writes}
use Rattle.atspi_headline.specs.Links.{Delivery}
use Rattle.atspi_headline_examples.specs.Runs.{app_starts}

-- a reader took the return to its call for all items of an application
abbrev pub loaded : List Act
loaded =
    map writes
    (started (App 0) (Some (codes "T"))
    ∷ sent (Reader 0) (asking 5 (GetItems (codes ":1.1")))
    ∷ sent (App 0) (record (return_to (codes ":1.2") 5 []) { serial = 4 })
    ∷ got (Reader 0) (App 0) 4 ∷ [])

-- the row of its root
abbrev pub root_row : ShownRow
root_row = record {
  parent = None;
  index = negsuc 0;
  row = record {
    path = path_of 0;
    name = codes "T";
    description = [];
    role = 75;
    states = 1124073728;
    faces = 0;
    text = Absent;
    caret = No_number;
    columns = No_number;
  };
}

-- an empty pattern, which covers all
abbrev pub listens : List Act
listens = writes (heard 0 (codes ":1.2") []) ∷ []

-- another name of the root, and the signal of it
abbrev pub renaming : Step
renaming = SetName 0 (codes "U")

abbrev pub renaming_told : Entry
renaming_told =
    sent (App 0)
    (record (property_changed 0 (codes "accessible-name") (text_data (codes "U"))).message { serial = 2 })

-- an alert, and the message behind it
abbrev pub alert : Seed
alert = record (root_seed (codes "Saved")) { role = 2 }

abbrev pub alerted : List Act
alerted = writes (changed 0 (Add 1 0 0 alert)) ∷ writes (sent (App 0) (asking 5 Hello)) ∷ []

-- the application is `:1.1`, and the bus tells that nobody has that name
abbrev pub ended : List Act
ended =
    map writes
    (started (App 0) (Some (codes "T")) ∷ got The_bus (App 0) 1
    ∷ sent The_bus (record (owner_changed (codes ":1.1") (codes ":1.1") []) { serial = 30 }) ∷ [])

-- a delivery of 128 bytes, where so many were moved by then
abbrev pub of_hello : ℕ → Delivery
of_hello mark = record { to = App 0; from = The_bus; letter = asking 1 Hello; mark = mark }

-- a turn is to be made behind its start
abbrev pub moving : List Act
moving = app_starts ++ begins_line (Turns 1) ∷ []
