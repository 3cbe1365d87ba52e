-- Words for worked cases: a reader is the first that greets the bus, an application hears of its patterns, and it asks
-- that application for all items.
use Rattle.std.specs.Prelude.{ℕ, List, [], ◌∷◌, ◌++◌, map}
use Rattle.atspi_script_lines.specs.declared.line.Party.TheVariants.{Bus as The_bus, App, Reader}
use Rattle.atspi_trace.specs.Entry.{Entry, got, heard}
use Rattle.atspi_trace_examples.specs.caches.Cases.{asked}

abbrev pub greeted : List Entry
greeted = got The_bus (Reader 0) 1 ∷ []

-- these patterns were heard of under a name, and then the call was sent
abbrev pub asked_behind : List ℕ → List (List ℕ) → List Entry
asked_behind name patterns = greeted ++ (map (heard 0 name) patterns ++ asked)

-- the application takes the call
abbrev pub takes_call : Entry
takes_call = got (App 0) (Reader 0) 4
