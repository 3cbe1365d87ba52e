-- What a change makes of a row.
use Rattle.atspi_tree_model.specs.declared.view.Row.{Row}
use Rattle.atspi_tree_model.specs.News.{known_number_to, told_number, told_text, with_count}
use Rattle.atspi_tree_model.specs.States.{with_state}
use Rattle.atspi_cache_arena.specs.declared.change.Change.{Change}
use Rattle.atspi_cache_arena.specs.declared.change.Change.TheVariants.{Renewed, Name, Description, Role, State, Text}
use Rattle.atspi_cache_arena.specs.declared.change.Change.TheVariants.{TextIs, Caret, CaretIs, ColumnsIs}

-- the row after a change
abbrev pub changed : Change → Row → Row
changed (Renewed name description role states faces) row = record row {
  name = name;
  description = description;
  role = role;
  states = states;
  faces = faces;
}
changed (Name x) row = record row { name = x }
changed (Description x) row = record row { description = x }
changed (Role x) row = record row { role = x }
changed (State s on) row = record row { states = with_state s on row.states }
changed (Text x) row = record row { text = x }
changed (TextIs x) row = record row { text = told_text x row.text }
changed (Caret at) row = record row { caret = with_count at known_number_to row.caret }
changed (CaretIs at) row = record row { caret = with_count at told_number row.caret }
changed (ColumnsIs n) row = record row { columns = with_count n told_number row.columns }
