-- What the code keeps of cursors: that of each reader in each text that it read, and what each message told of a text.
use Rattle.std.specs.Prelude.{◌≡◌, ℕ, ◌+◌, ◌*◌, ◌<◌, ◌^◌, List, ◌∷◌, [], ◌++◌, Option, None, Some}
use Rattle.std.specs.BTreeMap.{get}
use Rattle.std.specs.Ordering.{nat_cmp}
use Rattle.atspi_script_lines.specs.declared.line.Party.TheVariants.{App}
use Rattle.atspi_tree_model.specs.Path.{path_of}
use Rattle.atspi_trace_events.specs.declared.event.Event.{Event}
use Rattle.atspi_units.specs.Units.{units}
use Rattle.atspi_cursors.specs.Cursors.{cursor_at}
use Rattle.atspi_cursors.specs.Reading.{IsRead}
use Rattle.atspi_cursors.specs.declared.cursors.Cursors.{Cursors}
use Rattle.atspi_cursors.specs.declared.reading.Reading.{Reading}
use Rattle.atspi_browse.specs.Cursor.{Happening, event, unit, cursor, message_sent, of_message}
use Rattle.atspi_browse.specs.inner.Changes.{moment_at}
use Rattle.atspi_browse.specs.declared.changes.NodeChange.{NodeChange}
use Rattle.atspi_browse.specs.declared.line.UnitLine.{UnitLine}
use Rattle.atspi_browse.specs.declared.places.Places.{Places}

-- two numbers of 32 bits as one
abbrev pub key : ℕ → ℕ → ℕ
key one two = one * 4294967296 + two

abbrev pub at_node : Option Cursors → ℕ → ℕ
at_node None n = 0
at_node (Some cursors) n = cursor_at cursors n

-- the cursor of a reader in the text of an application's node
abbrev pub cursor_of : Places → ℕ → ℕ → ℕ → ℕ
cursor_of p r a n = at_node (get nat_cmp p.cursors (key r a)) n

abbrev pub told_by : Option (Option NodeChange) → Option NodeChange
told_by None = None
told_by (Some told) = told

-- what the last message of an application with a serial told of a text
abbrev pub note_of : Places → ℕ → ℕ → Option NodeChange
note_of p a serial = told_by (get nat_cmp p.told (key a serial))

-- THE CURSORS ARE THOSE BEHIND ALL THAT HAPPENED, and so is what messages told
pub record AreBehind (p : Places) (happened : List Happening) : Type 0 where
  pub cursors : (r a n : ℕ) → r < 2 ^ 32 → a < 2 ^ 32 → n < 2 ^ 32 → cursor_of p r a n ≡ cursor r a n happened
  pub notes
      : (a serial n : ℕ) → a < 2 ^ 32 → serial < 2 ^ 32 → n < 2 ^ 32
      → of_message (path_of n) (message_sent (App a) serial happened) ≡ moment_at n (note_of p a serial)

-- THEY FOLLOW AN EVENT, whatever happened before; and a reading, which is that of the cursor behind all that happened
abbrev pub Heeds : Places → Places → Event → Type 0
Heeds old new e = (happened : List Happening) → AreBehind old happened → AreBehind new (happened ++ event e ∷ [])

abbrev pub Reads : Places → Places → UnitLine → List ℕ → Option Reading → Type 0
Reads old new l text reading =
    (happened : List Happening) → AreBehind old happened
    → IsRead l.way (units l.grain text) (cursor l.reader l.app l.node happened) reading
    × AreBehind new (happened ++ unit l text reading ∷ [])
