-- Words for worked cases.
use Rattle.std.specs.Prelude.{ℕ, ◌^◌, pos, List, [], codes}
use Rattle.atspi_tree_model.specs.declared.view.Part.TheVariants.{Absent}
use Rattle.atspi_tree_model.specs.declared.view.NumPart.TheVariants.{Absent as NoNumber}
use Rattle.atspi_tree_model.specs.declared.view.Row.{Row}
use Rattle.atspi_tree_model.specs.declared.news.Item.{Item}
use Rattle.atspi_tree_model.specs.Forest.{Forest, nil, tree}
use Rattle.atspi_speech.specs.Speech.{Subject}

-- a node with this name, role and states
abbrev pub node : List ℕ → ℕ → ℕ → Subject
node name role states = record { name = name; role = role; states = states }

-- the focus alone
abbrev pub focused_only : ℕ
focused_only = 2 ^ 12

-- a row without parts
abbrev pub row : List ℕ → List ℕ → ℕ → ℕ → Row
row path name role states = record {
  path = path;
  name = name;
  description = [];
  role = role;
  states = states;
  faces = 0;
  text = Absent;
  caret = NoNumber;
  columns = NoNumber;
}

-- the root /r with one child /a, a check box, which has the focus
abbrev pub window : Forest Row
window = tree (row (codes "/r") (codes "Demo") 75 0) (tree (row (codes "/a") (codes "Find") 7 focused_only) nil nil) nil

-- an item with this name and role, of a bus name and path, below a bus name and path
abbrev pub item : List ℕ → ℕ → List ℕ → List ℕ → List ℕ → List ℕ → Item
item name role bus path parent_bus parent = record {
  object = record { bus = bus; path = path };
  application = record { bus = bus; path = codes "/r" };
  parent = record { bus = parent_bus; path = parent };
  index = pos 0;
  children = pos 0;
  interfaces = [];
  name = name;
  role = role;
  description = [];
  states = focused_only;
}
