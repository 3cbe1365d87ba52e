-- Scenes and traces of small runs: those that are lawful, and wrong ones with the entry at which they go wrong.
use Rattle.std.specs.Prelude.{ℕ, pos, ◌==◌, Bool, false, List, [], ◌∷◌, ◌++◌, None, Some, codes}
use Rattle.atspi_trace_events.specs.declared.shown.ShownRow.{ShownRow}
use Rattle.atspi_script_lines.specs.declared.limits.TheConstants.{QUOTA_MOST}
use Rattle.atspi_script_lines.specs.declared.line.Line.{Line}
use Rattle.atspi_script_lines.specs.declared.line.Line.TheVariants.{App as App_line, Exit, Turns}
use Rattle.atspi_script_lines.specs.declared.line.Party.TheVariants.{Bus as The_bus, Registry, App, Reader}
use Rattle.atspi_match.specs.routing.OwnMessages.{owner_changed}
use Rattle.atspi_protocol.specs.declared.following.question.Question.TheVariants.{GetItems}
use Rattle.atspi_protocol.specs.following.Calls.{asking}
use Rattle.atspi_trace.specs.Entry.{Entry, started, sent, got, spoke, showed, exited, gone, dropped, busy}
use Rattle.atspi_trace.specs.Rules.{owner_rule}
use Rattle.atspi_trace.specs.World.{away, Hearer, Letter, World, first_bus, first_registry}
use Rattle.atspi_trace.specs.Ends.{plain}
use Rattle.atspi_trace.specs.Due.{Scene, happens, after_all}
use Rattle.atspi_trace_examples.specs.caches.Cases.{ready_but, child_told}
use Rattle.atspi_trace_examples.specs.traces.Cases.{scene, reader_end, race, race_rows, row, usual, panel_rows}
use Rattle.atspi_trace_examples.specs.traces.Cases.{left_panels, bus_world, three_bus, app_end, app_state, announced_up}
use Rattle.atspi_trace_examples.specs.traces.Cases.{with_button, renamed, holding, end_of_app, turns_and_show, hello}

-- A LATE APPLICATION: a reader whose start is through takes the registry's news of it, and asks for its items
abbrev pub told_by : List ℕ → Letter
told_by sender = record { from = Registry; said = plain (record (child_told sender) { serial = 9 }) }

abbrev pub ready_scene : Hearer → List ℕ → Scene
ready_scene h sender =
    scene
    (record {
      bus = first_bus QUOTA_MOST;
      ends = first_registry ∷ reader_end h (told_by sender ∷ []) ∷ [];
      swaps = 0;
    }) (Turns 1 ∷ [])

-- the reader was told of no application, and its calls of the start were returned, but for those at the left out places
abbrev pub knows_none : ℕ → ℕ → Hearer
knows_none from to = record (ready_but from to) { named = [] }

abbrev pub news_taken : Entry
news_taken = got (Reader 0) Registry 9

abbrev pub asks_items : Entry
asks_items = sent (Reader 0) (asking 12 (GetItems (codes ":1.8")))

abbrev pub late_trace : List Entry
late_trace = news_taken ∷ asks_items ∷ busy 1 ∷ []

-- behind the news it asks: where a rule or a pattern lacks, or where the news is not the registry's
abbrev pub asking_at : Hearer → List ℕ → Scene
asking_at h sender = happens (ready_scene h sender) news_taken

-- THE RACE between news and items
abbrev pub race_front : List Entry
race_front = got (Reader 0) (App 0) 5 ∷ busy 1 ∷ showed 0 0 None ∷ got (Reader 0) (App 0) 6 ∷ busy 1 ∷ []

abbrev pub race_trace : List Entry
race_trace = race_front ++ showed 0 0 (Some (race_rows (codes "One"))) ∷ got (Reader 0) (App 0) 7
    ∷ showed 0 0 (Some (race_rows (codes "Uno"))) ∷ []

-- a reader that keeps the news from before the items and folds it in behind them: the second button stands twice
abbrev pub loaded_race : Scene
loaded_race = after_all race race_front

abbrev pub kept_before : List ShownRow
kept_before = race_rows (codes "One") ++ row 2 (Some 0) (pos 2) (codes "Two") 43 usual ∷ []

-- REPARENTING AND REMOVAL
abbrev pub moved_trace : List Entry
moved_trace = got (Reader 0) (App 0) 7 ∷ showed 0 0 (Some panel_rows) ∷ []

abbrev pub removed_trace : List Entry
removed_trace = got (Reader 0) (App 0) 7 ∷ showed 0 0 (Some left_panels) ∷ []

-- AN END of an application that left
abbrev pub end_scene : Scene
end_scene =
    scene (record {
      bus = first_bus QUOTA_MOST;
      ends = first_registry ∷ record (app_end (app_state renamed [])) { standing = away }
          ∷ reader_end (holding with_button) (end_of_app ∷ []) ∷ [];
      swaps = 0;
    }) (turns_and_show 1)

abbrev pub end_trace : List Entry
end_trace = got (Reader 0) The_bus 30 ∷ gone 0 0 ∷ spoke 0 0 (codes "T, closed") ∷ showed 0 0 None ∷ []

-- DROPS
abbrev pub drop_trace : List Entry
drop_trace =
    got The_bus (App 0) 7 ∷ dropped (Reader 0) 0 200
    ∷ sent The_bus (record (owner_changed (codes ":1.2") (codes ":1.2") []) { serial = 30 }) ∷ []

abbrev pub dropping : Scene
dropping = happens (scene (bus_world 199) (Turns 1 ∷ [])) (got The_bus (App 0) 7)

abbrev pub is_dropped_with : ℕ → Entry → Bool
is_dropped_with count (dropped who queued len) = len == count
is_dropped_with count entry = false

abbrev pub lost_trace : List Entry
lost_trace = sent The_bus (record (owner_changed (codes ":1.2") (codes ":1.2") []) { serial = 30 })
    ∷ dropped Registry 0 189 ∷ []

-- A BUS that hands a signal to one who asked for none, and one that serves calls ahead of signals: behind the signal on
-- the up link waits a call
abbrev pub no_rules_world : World
no_rules_world =
    record (bus_world QUOTA_MOST) {
      bus =
          record (three_bus QUOTA_MOST)
          { state = record (three_bus QUOTA_MOST).state { rules = (0, owner_rule) ∷ [] } };
    }

abbrev pub routed_to_none : Scene
routed_to_none = happens (scene no_rules_world (Turns 2 ∷ [])) (got The_bus (App 0) 7)

abbrev pub two_up_world : World
two_up_world = record {
  bus = three_bus QUOTA_MOST;
  ends = first_registry
      ∷ record (app_end (app_state renamed [])) { up = announced_up ∷ plain (record hello { serial = 8 }) ∷ [] }
      ∷ reader_end (holding with_button) [] ∷ [];
  swaps = 0;
}

-- A WHOLE SCRIPT: an application starts and exits
abbrev pub short_life : List Line
short_life = App_line (codes "T") ∷ Exit 0 ∷ []

abbrev pub short_trace : List Entry
short_trace = started (App 0) (Some (codes "T")) ∷ sent (App 0) hello ∷ exited (App 0) ∷ []
