-- Words for worked cases: an application that was greeted by the bus, and all of whose signals somebody listens to,
-- removes its root.
use Rattle.std.specs.Prelude.{ℕ, List, [], ◌∷◌, Some, codes}
use Rattle.atspi_tree_model.specs.declared.step.Step.TheVariants.{Remove}
use Rattle.atspi_script_lines.specs.declared.line.Party.TheVariants.{Bus as The_bus, App}
use Rattle.atspi_names.specs.Owners.{unique_name}
use Rattle.atspi_trace.specs.Entry.{Entry, started, got, heard}
use Rattle.atspi_trace_laws.specs.heard.Laws.{signals_under}

abbrev pub greeted : List Entry
greeted = started (App 0) (Some (codes "Demo")) ∷ got The_bus (App 0) 1 ∷ heard 0 [] [] ∷ []

-- the signals of that under the unique name with this number
abbrev pub removed_as : ℕ → List Entry
removed_as n = signals_under (unique_name n) greeted 0 (Remove 0)
