-- Counts of what the contents of a node have, and which of them a call needs.
use Rattle.std.specs.Prelude.{◌≡◌, ℕ, List, length, IfSome}
use Rattle.std.specs.List.{AllByRecursion}
use Rattle.atspi_tree_model.specs.Row.{ShapeRow, TreeRow}
use Rattle.atspi_protocol.specs.declared.members.property.ObjectProperty.{ObjectProperty}
use Rattle.atspi_protocol.specs.declared.members.property.ObjectProperty.TheVariants.{CharacterCount, CaretOffset}
use Rattle.atspi_protocol.specs.declared.members.property.ObjectProperty.TheVariants.{NRows, NColumns, NActions}
use Rattle.atspi_protocol.specs.members.Table.{PropertyLine}
use Rattle.atspi_protocol.specs.objects.Texts.{text_of}
use Rattle.atspi_protocol.specs.objects.Tables.{columns_of}
use Rattle.atspi_tree.specs.TreeShape.{TreeShape, row_of}
use Rattle.atspi_faces.specs.face.Nodes.{count_at, caret_at}
use Rattle.atspi_protocol.specs.whole.Whole.{Faces, filled}
use Rattle.atspi_app_calls.specs.declared.ask.Ask.{Ask}
use Rattle.atspi_app_calls.specs.declared.ask.Ask.TheVariants as asks
use Rattle.atspi_app_calls.specs.Interface.{properties_in}
use Rattle.atspi_app_answers.specs.declared.counts.Counts.{Counts}
use Rattle.atspi_app_answers.specs.declared.place.AppPlace.{AppPlace}
use Rattle.atspi_app_answers.specs.declared.place.AppPlace.TheVariants.{Tree, Node}

-- all counts are those of a row
pub record AreCounts (counts : Counts) (row : TreeRow) : Type 0 where
  pub characters : counts.characters ≡ length (text_of row).characters
  pub caret : counts.caret ≡ (text_of row).caret
  pub columns : counts.columns ≡ columns_of row
  pub actions : counts.actions ≡ length row.contents.actions

-- the count that a property tells is that of a row
abbrev pub HasCountFor : Counts → TreeRow → ObjectProperty → Type 0
HasCountFor counts row CharacterCount = counts.characters ≡ length (text_of row).characters
HasCountFor counts row CaretOffset = counts.caret ≡ (text_of row).caret
HasCountFor counts row NRows = counts.columns ≡ columns_of row
HasCountFor counts row NColumns = counts.columns ≡ columns_of row
HasCountFor counts row NActions = counts.actions ≡ length row.contents.actions
HasCountFor counts row property = Unit {0}

-- those that the properties of some lines tell
abbrev pub HasCountsFor : Counts → TreeRow → List PropertyLine → Type 0
HasCountsFor counts row lines = AllByRecursion (λ (l : PropertyLine). HasCountFor counts row l.property) lines

-- those that a call needs
abbrev pub HasCountsAsked : Counts → TreeRow → Ask → Type 0
HasCountsAsked counts row (asks.Get property) = HasCountFor counts row property
HasCountsAsked counts row (asks.GetAll interface) = HasCountsFor counts row (properties_in interface)
HasCountsAsked counts row ask = Unit {0}

-- the same of an object of the whole tree
abbrev pub HasCountsAt : Counts → TreeShape → Faces → AppPlace → Ask → Type 0
HasCountsAt counts t faces Tree ask = Unit {0}
HasCountsAt counts t faces (Node n) ask =
    IfSome (row_of n t) (λ (s : ShapeRow). HasCountsAsked counts (filled faces s) ask)

-- the counts that faces tell of a node
abbrev pub counts_at : Faces → ℕ → Counts
counts_at faces n = record {
  characters = count_at faces.chars n;
  caret = caret_at faces.chars n;
  columns = count_at faces.grid n;
  actions = count_at faces.deeds n;
}
