-- The view of a tree: what a reader keeps of it who was told all, or all but some parts.
use Rattle.std.specs.Prelude.{ℕ, ◌+◌, Bool, true, false, cond, List, Option, Some, None}
use Rattle.atspi_tree_model.specs.declared.contents.Kinds.{Kinds}
use Rattle.atspi_tree_model.specs.declared.view.Part.{Part}
use Rattle.atspi_tree_model.specs.declared.view.Part.TheVariants.{Absent, Unknown, Known}
use Rattle.atspi_tree_model.specs.declared.view.NumPart.{NumPart}
use Rattle.atspi_tree_model.specs.declared.view.NumPart.TheVariants.{Absent as NoNumber, Unknown as UnknownNumber}
use Rattle.atspi_tree_model.specs.declared.view.NumPart.TheVariants.{Known as KnownNumber}
use Rattle.atspi_tree_model.specs.declared.view.Row.{Row}
use Rattle.atspi_tree_model.specs.Forest.{Forest, relabel}
use Rattle.atspi_tree_model.specs.Row.{TextContents, TreeRow}
use Rattle.atspi_tree_model.specs.Path.{path_of}

-- which parts of a node a reader was told, since it last loaded the tree
pub record Told : Type 0 where
  pub text : Bool
  pub caret : Bool
  pub columns : Bool

-- nothing was told of any path
abbrev pub nothing_told : List ℕ → Told
nothing_told path = record { text = false; caret = false; columns = false }

-- a text as a reader knows it
abbrev pub text_part : Bool → Option (List ℕ) → Part
text_part told None = Absent
text_part false (Some x) = Unknown
text_part true (Some x) = Known x

-- a number as a reader knows it
abbrev pub number_part : Bool → Option ℕ → NumPart
number_part told None = NoNumber
number_part false (Some x) = UnknownNumber
number_part true (Some x) = KnownNumber x

-- the characters of a text, if there is one
abbrev pub characters_of : Option TextContents → Option (List ℕ)
characters_of None = None
characters_of (Some text) = Some text.characters

-- the caret of a text, if there is one
abbrev pub caret_of : Option TextContents → Option ℕ
caret_of None = None
caret_of (Some text) = Some text.caret

-- the interfaces as one number, each by its bit
abbrev pub kinds_number : Kinds → ℕ
kinds_number k =
    cond k.text 1 0 + (cond k.editable 2 0 + (cond k.selection 4 0 + (cond k.table 8 0 + cond k.action 16 0)))

-- a row as a reader keeps it
abbrev pub shown : (List ℕ → Told) → TreeRow → Row
shown told row = record {
  path = path_of row.shape.node;
  name = row.shape.name;
  description = row.shape.description;
  role = row.shape.role;
  states = row.shape.states;
  faces = kinds_number row.shape.kinds;
  text = text_part (told (path_of row.shape.node)).text (characters_of row.contents.text);
  caret = number_part (told (path_of row.shape.node)).caret (caret_of row.contents.text);
  columns = number_part (told (path_of row.shape.node)).columns row.contents.columns;
}

-- the view of a tree of a reader that was told these parts: each node's row at the node's place
abbrev pub view : (List ℕ → Told) → Forest TreeRow → Forest Row
view told f = relabel (shown told) f
