-- Words for worked cases: readers that asked for more or less, and what waits.
use Rattle.std.specs.Prelude.{ℕ, List, [], ◌∷◌, ◌++◌, map, codes}
use Rattle.atspi_names.specs.Owners.{unique_name}
use Rattle.atspi_tree_model.specs.Path.{path_of}
use Rattle.atspi_tree_model.specs.declared.view.Part.{Part}
use Rattle.atspi_tree_model.specs.declared.view.Row.{Row}
use Rattle.atspi_tree_model.specs.declared.view.NumPart.TheVariants.{Absent as No_number}
use Rattle.atspi_script_lines.specs.declared.line.Party.TheVariants.{Bus as The_bus, App, Reader}
use Rattle.atspi_protocol.specs.declared.news.part.PartName.TheVariants.{Text}
use Rattle.atspi_protocol.specs.declared.following.question.Question.{Question}
use Rattle.atspi_protocol.specs.declared.following.question.Question.TheVariants.{GetPart}
use Rattle.atspi_protocol.specs.following.Calls.{asking}
use Rattle.atspi_protocol.specs.following.Cases.{row}
use Rattle.atspi_trace.specs.Entry.{Entry, sent, got}
use Rattle.atspi_trace.specs.World.{Asked, Hearer, World}
use Rattle.atspi_trace.specs.Causes.{first_hearer}
use Rattle.atspi_trace_examples.specs.caches.Cases.{returned_at, its_name, loaded}
use Rattle.atspi_trace_examples.specs.traces.Cases.{app_state, with_button, holding, world, end_of_app}

-- these calls, each of them returned
abbrev pub asked_all : List Question → List Asked
asked_all questions = map (returned_at 1) questions

-- a reader that asked this, and was told of these applications
abbrev pub asker : List Question → List (List ℕ) → Hearer
asker questions names = record first_hearer { asked = asked_all questions; named = names }

-- an application whose Hello the bus took, and the name that it has since
abbrev pub greeted : List Entry
greeted = got The_bus (App 0) 1 ∷ []

abbrev pub given_name : List ℕ
given_name = unique_name 1

-- a call for the text of a node
abbrev pub asks_text : List ℕ → ℕ → Entry
asks_text name node = sent (Reader 0) (asking 6 (GetPart name (path_of node) Text))

-- a call for the root's text behind the load, and before it
abbrev pub asked_behind : List Entry
asked_behind = loaded ++ asks_text its_name 0 ∷ []

abbrev pub asked_before : List Entry
asked_before = asks_text its_name 0 ∷ loaded

-- a row with a text that is known or not
abbrev pub row_with : Part → Row
row_with part = row (path_of 0) (codes "Demo") part No_number No_number

-- a world in which nothing waits, and one in which a message waits for the reader; and the name of the application
-- there
abbrev pub at_rest : World
at_rest = world (app_state with_button []) (holding with_button) []

abbrev pub with_news : World
with_news = world (app_state with_button []) (holding with_button) (end_of_app ∷ [])

abbrev pub shown_name : List ℕ
shown_name = codes ":1.1"
