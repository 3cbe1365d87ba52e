-- Words for worked cases: a world in which messages of an application wait on both links, and an application that got
-- another name.
use Rattle.std.specs.Prelude.{ℕ, List, [], ◌∷◌, map, None, Some, codes}
use Rattle.atspi_types.specs.Data.{text_data}
use Rattle.atspi_tree_model.specs.declared.view.Row.{Row}
use Rattle.atspi_tree_model.specs.Forest.{Forest}
use Rattle.atspi_tree_model.specs.View.{nothing_told, view}
use Rattle.atspi_script_lines.specs.declared.limits.TheConstants.{QUOTA_MOST}
use Rattle.atspi_script_lines.specs.declared.line.Party.TheVariants.{App, Reader}
use Rattle.atspi_protocol.specs.announcing.Signals.{property_changed}
use Rattle.atspi_trace.specs.Entry.{Entry, started}
use Rattle.atspi_trace.specs.World.{Said, World, first_registry, first_bus}
use Rattle.atspi_trace.specs.Ends.{plain}
use Rattle.atspi_trace_laws.specs.laws.Words.{as_of}
use Rattle.atspi_trace_examples.specs.caches.Cases.{told, renamed}
use Rattle.atspi_trace_examples.specs.traces.Cases.{app_that_told, reader_end, holding, with_button, one_button}
use Rattle.atspi_trace_examples.specs.traces.Cases.{adding_two, announcing, end_of_app}
use Rattle.atspi_trace_caches.specs.ways.Laws.{on_the_way}

-- message 5 of the application waits for the reader, behind news of the bus; message 7 was not taken by the bus yet
abbrev pub on_both_links : World
on_both_links = record {
  bus = first_bus QUOTA_MOST;
  ends = first_registry ∷ app_that_told
      ∷ reader_end (holding with_button) (end_of_app ∷ announcing one_button adding_two 5 ∷ []) ∷ [];
  swaps = 0;
}

abbrev pub serials_on_the_way : ℕ → ℕ → List ℕ
serials_on_the_way reader app = map (λ (said : Said). said.message.serial) (on_the_way on_both_links reader app)

-- the application told all items in message 5; then it got another name, which message 6 tells
abbrev pub told_all : List Entry
told_all = started (App 0) (Some (codes "Demo")) ∷ told

abbrev pub told_name : List Entry
told_name = started (App 0) (Some (codes "Demo")) ∷ renamed

abbrev pub its_view : Forest Row
its_view = view nothing_told (as_of told_name 0 5)

abbrev pub name_told : Said
name_told =
    plain (record (property_changed 0 (codes "accessible-name") (text_data (codes "Desk"))).message { serial = 6 })

abbrev pub both_started : List Entry
both_started = started (App 0) (Some (codes "Demo")) ∷ started (Reader 0) None ∷ []
