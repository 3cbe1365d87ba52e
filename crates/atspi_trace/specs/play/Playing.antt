-- A world whose readers are those of their own definitions: they ask what they wish to know, and speak and show what
-- they read from their own views.
use Rattle.std.specs.Prelude.{ℕ, List, [], map, Option, None, Some, slice_get}
use Rattle.atspi_cache_arena.specs.Sights.{Sight, sights}
use Rattle.atspi_trace_events.specs.declared.shown.ShownRow.{ShownRow}
use Rattle.atspi_tree_model.specs.declared.view.Row.{Row}
use Rattle.atspi_tree_model.specs.Forest.{Forest}
use Rattle.atspi_protocol.specs.following.ReaderState.{ReaderState}
use Rattle.atspi_protocol.specs.following.Takes.{held_view}
use Rattle.atspi_trace.specs.Entry.{Entry}
use Rattle.atspi_trace.specs.World.{End, World, first_world}

-- the world of a trace, and its readers by their numbers
pub record Playing : Type 0 where
  pub world : World
  pub readers : List ReaderState

-- what happened: the world after it, and the entries that were written
pub record Happened : Type 0 where
  pub now : Playing
  pub entries : List Entry

-- the beginning of a script, under a quota
abbrev pub first_playing : ℕ → Playing
first_playing quota = record { world = first_world quota; readers = [] }

-- nobody has to take what a reader did
abbrev pub silent : ReaderState → ReaderState
silent s = record s { out = [] }

-- the view that a reader has of the application with this unique name, as far as there are both
abbrev pub held_by : Option ReaderState → Option (List ℕ) → Option (Forest Row)
held_by reader None = None
held_by None (Some name) = None
held_by (Some s) (Some name) = held_view s name

-- the unique name of an end, once the bus gave it
abbrev pub unique_in : Option End → Option (List ℕ)
unique_in None = None
unique_in (Some e) = e.unique

-- the rows of a view, as they are shown
abbrev pub shown_sight : Sight → ShownRow
shown_sight s = record { parent = s.parent; index = s.index; row = s.row }

abbrev pub view_rows : Option (Forest Row) → Option (List ShownRow)
view_rows None = None
view_rows (Some v) = Some (map shown_sight (sights v))

-- the view that the reader with a number has
abbrev pub view_in : Playing → ℕ → Option (List ℕ) → Option (Forest Row)
view_in p reader name = held_by (slice_get p.readers reader) name
