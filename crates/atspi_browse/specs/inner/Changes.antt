-- What a message tells of a text, as the code keeps it.
use Rattle.std.specs.Prelude.{ℕ, ℤ, pos, ◌==◌, List, length, codes, Option, None, Some, if◌then◌else◌}
use Rattle.atspi_types.specs.Data.{Data, text_data}
use Rattle.atspi_protocol.specs.news.Arguments.{Event}
use Rattle.atspi_protocol.specs.news.Events.{is_front}
use Rattle.atspi_browse.specs.Cursor.{Moment, inserted, deleted, other}
use Rattle.atspi_browse.specs.declared.changes.Change.{Change}
use Rattle.atspi_browse.specs.declared.changes.Change.TheVariants.{Inserted, Deleted}
use Rattle.atspi_browse.specs.declared.changes.NodeChange.{NodeChange}

-- a change to the cursor in its text
abbrev pub moment_of : Option Change → Moment
moment_of None = other
moment_of (Some (Inserted at count)) = inserted at count
moment_of (Some (Deleted at count)) = deleted at count

-- and to the cursor in the text of a node
abbrev pub moment_at : ℕ → Option NodeChange → Moment
moment_at n None = other
moment_at n (Some c) = if c.node == n then moment_of (Some c.change) else other

-- characters were put in, or taken out, at a place that may be below 0
abbrev pub of_insertion : ℤ → List ℕ → Moment
of_insertion (pos at) text = inserted at (length text)
of_insertion at text = other

abbrev pub of_deletion : ℤ → ℤ → Moment
of_deletion (pos at) (pos count) = deleted at count
of_deletion at count = other

-- what an event of a text tells, by its arguments
abbrev pub of_minor : List ℕ → ℤ → ℤ → List ℕ → Moment
of_minor minor at count text =
    if is_front (codes "insert") minor then of_insertion at text
    else if is_front (codes "delete") minor then of_deletion at count
    else other

abbrev pub of_valued : List ℕ → ℤ → ℤ → Data → Moment
of_valued minor at count (text_data text) = of_minor minor at count text
of_valued minor at count value = other

abbrev pub of_event : Event → Moment
of_event e = of_valued e.minor e.detail1 e.detail2 e.value

abbrev pub of_events : Option Event → Moment
of_events None = other
of_events (Some e) = of_event e
