-- Words for worked cases: a reader that asks an application for all items, takes the return, and then the news of
-- another name; and which calls it may send.
use Rattle.std.specs.Prelude.{ℕ, List, [], ◌∷◌, ◌++◌, map, take, drop, Option, Some, option_map, codes}
use Rattle.std.specs.List.{fold}
use Rattle.atspi_types.specs.Data.{text_data}
use Rattle.atspi_tree_model.specs.declared.step.Step.TheVariants.{SetName, SetDescription}
use Rattle.atspi_tree_model.specs.declared.view.Row.{Row}
use Rattle.atspi_tree_model.specs.Forest.{labels}
use Rattle.atspi_tree_model.specs.Path.{path_of}
use Rattle.atspi_tree_model.specs.Row.{TreeRow}
use Rattle.atspi_script_lines.specs.declared.line.Party.TheVariants.{Registry, App, Reader}
use Rattle.atspi_message.specs.Envelope.{Envelope}
use Rattle.atspi_protocol.specs.announcing.Signals.{property_changed}
use Rattle.atspi_protocol.specs.declared.following.question.Question.{Question}
use Rattle.atspi_protocol.specs.declared.following.question.Question.TheVariants.{GetChildren, GetItems}
use Rattle.atspi_protocol.specs.ends.Places.{references}
use Rattle.atspi_protocol.specs.registering.Told.{children_changed}
use Rattle.atspi_protocol.specs.following.Calls.{asking}
use Rattle.atspi_protocol.specs.following.Cases.{returned, item, items}
use Rattle.atspi_protocol.specs.following.ReaderState.{start_calls}
use Rattle.atspi_trace.specs.Entry.{Entry, started, changed, sent, got}
use Rattle.atspi_trace.specs.World.{waits, returned as returned_fate, Asked, Hearer}
use Rattle.atspi_trace.specs.Ends.{plain}
use Rattle.atspi_trace.specs.Hearing.{hears_letter}
use Rattle.atspi_trace.specs.Causes.{first_hearer}
use Rattle.atspi_trace_laws.specs.laws.Words.{as_of}
use Rattle.atspi_trace_caches.specs.caches.Caches.{followed}

-- the application's unique name
abbrev pub its_name : List ℕ
its_name = codes ":1.7"

-- the call, the return with the root alone, and that it was taken
abbrev pub asked : List Entry
asked = sent (Reader 0) (asking 4 (GetItems its_name)) ∷ []

abbrev pub told : List Entry
told = asked
    ++ sent (App 0)
    (record (returned 4 its_name (items (item (path_of 0) (codes "/x") (codes "Demo") ∷ []))) { serial = 5 }) ∷ []

abbrev pub loaded : List Entry
loaded = told ++ got (Reader 0) (App 0) 5 ∷ []

-- the root has another name, which is told and taken
abbrev pub renamed : List Entry
renamed = loaded ++ changed 0 (SetName 0 (codes "Desk"))
    ∷ sent (App 0)
    (record (property_changed 0 (codes "accessible-name") (text_data (codes "Desk"))).message { serial = 6 }) ∷ []

abbrev pub heard_of : List Entry
heard_of = renamed ++ got (Reader 0) (App 0) 6 ∷ []

-- the names that a reader has of it
abbrev pub names_had : List ℕ → List Entry → ℕ → Option (List (List ℕ))
names_had name trace reader = option_map (λ v. map (λ (r : Row). r.name) (labels v)) (followed name trace reader 0).view

-- a description that is told and taken, where the other name was not taken: what was sent between was missed
abbrev pub described : List Entry
described =
    started (App 0) (Some (codes "Demo")) ∷ renamed ++ changed 0 (SetDescription 0 (codes "main"))
    ∷ sent (App 0)
    (record (property_changed 0 (codes "accessible-description") (text_data (codes "main"))).message
    { serial = 7 }) ∷ []

abbrev pub missed : List Entry
missed = described ++ got (Reader 0) (App 0) 7 ∷ []

-- the names in the application's tree as of a message
abbrev pub names_then : List Entry → ℕ → List (List ℕ)
names_then trace serial = map (λ (row : TreeRow). row.shape.name) (labels (as_of trace 0 serial))

-- A reader whose calls of the start were returned, but for those at the left out places, and which the registry told of
-- the application
abbrev pub returned_at : ℕ → Question → Asked
returned_at serial question = record { serial = serial; question = question; fate = returned_fate }

abbrev pub ready_but : ℕ → ℕ → Hearer
ready_but from to = record first_hearer {
  asked = map (returned_at 1) (take from start_calls ++ drop to start_calls);
  next = 12;
  registry = Some (codes ":1.0");
  named = its_name ∷ [];
}

abbrev pub ready : Hearer
ready = ready_but 0 0

-- one whose first call waits for its return, which is a call for the registry's children
abbrev pub asks_children : Hearer
asks_children =
    record first_hearer { asked = record { serial = 1; question = GetChildren; fate = waits } ∷ []; next = 2 }

-- the return, which names the application, and the news of a child that was added, which names another
abbrev pub children_told : Envelope
children_told = returned 1 (codes ":1.0") (references ((its_name, codes "/r") ∷ []) ∷ [])

abbrev pub child_told : List ℕ → Envelope
child_told sender = record (children_changed (codes "add") 1 (codes ":1.8", codes "/r")) { sender = Some sender }

-- what it was told of, behind these messages
abbrev pub hears_one : Hearer → Envelope → Hearer
hears_one h e = hears_letter h [] (record { from = Registry; said = plain e })

abbrev pub names_had_of : List Envelope → List (List ℕ)
names_had_of messages = (fold hears_one asks_children messages).named
