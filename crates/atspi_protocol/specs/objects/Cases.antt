-- The application of the worked cases.
use Rattle.std.specs.Prelude.{ℕ, ◌+◌, ℤ, pos, true, false, List, [], ◌∷◌, map, None, Some, codes}
use Rattle.atspi_types.specs.Data.{Data, text_data}
use Rattle.atspi_tree_model.specs.declared.contents.Kinds.{Kinds}
use Rattle.atspi_tree_model.specs.declared.step.Step.{Step}
use Rattle.atspi_tree_model.specs.Forest.{Forest, nil, tree}
use Rattle.atspi_tree_model.specs.Row.{TextContents, TreeRow}
use Rattle.atspi_tree_model.specs.Path.{path_of}
use Rattle.atspi_protocol.specs.ends.Places.{reference, references}
use Rattle.atspi_protocol.specs.ends.Messages.{Reply}
use Rattle.atspi_protocol.specs.declared.members.member.ObjectMember.{ObjectMember}
use Rattle.atspi_protocol.specs.declared.members.property.ObjectProperty.{ObjectProperty}
use Rattle.atspi_protocol.specs.members.Arguments.{int}
use Rattle.atspi_protocol.specs.objects.Application.{Application}
use Rattle.atspi_protocol.specs.objects.Properties.{property_data}
use Rattle.atspi_protocol.specs.objects.Answers.{called}

-- no interface but Accessible
abbrev pub plain : Kinds
plain = record { text = false; editable = false; selection = false; table = false; action = false }

-- a node of this number with these states, and nothing else
abbrev pub bare : ℕ → ℕ → TreeRow
bare n states = record {
  shape = record { node = n; name = []; description = []; role = 0; states = states; kinds = plain; relations = [] };
  contents = record { text = None; columns = None; actions = [] };
}

-- a node that is selected
abbrev pub chosen : ℕ → TreeRow
chosen n = bare n 8388608

-- the root: role 75, with the states of a new node
abbrev pub root : TreeRow
root = record (bare 0 0) { shape = record (bare 0 1124073728).shape { name = codes "T"; role = 75 } }

-- a list of which one child can be selected at a time, and one of which many can
abbrev pub list : TreeRow
list = record (bare 1 0) { shape = record (bare 1 0).shape { kinds = record plain { selection = true } } }

abbrev pub wide_list : TreeRow
wide_list = record (bare 13 0) { shape = record (bare 13 262144).shape { kinds = record plain { selection = true } } }

-- a word of five characters, the second of them not in ASCII, with the caret before the fourth and two selections
abbrev pub hello : List ℕ
hello = 104 ∷ 233 ∷ 108 ∷ 108 ∷ 111 ∷ []

abbrev pub hello_there : TextContents
hello_there = record { characters = hello; caret = 3; selections = (1, 3) ∷ (0, 5) ∷ [] }

-- an entry with that word, labelled by the list and by the table, and a member of a group with the root
abbrev pub entry : TreeRow
entry = record {
  shape = record {
    node = 5;
    name = codes "E";
    description = codes "an entry";
    role = 79;
    states = 4294967296 + 4096;
    kinds = record plain { text = true; editable = true };
    relations = (5, 0) ∷ (2, 1) ∷ (2, 6) ∷ [];
  };
  contents = record (bare 5 0).contents { text = Some hello_there };
}

-- a table of two columns, with five cells, of which the first three are selected
abbrev pub grid : TreeRow
grid = record {
  shape = record (bare 6 0).shape { role = 55; kinds = record plain { table = true } };
  contents = record (bare 6 0).contents { columns = Some 2 };
}

-- a button that is checked, with two actions
abbrev pub button : TreeRow
button = record {
  shape = record (bare 12 16).shape { role = 117; kinds = record plain { action = true } };
  contents = record (bare 12 0).contents { actions = codes "toggle" ∷ codes "jump" ∷ [] };
}

-- a node behind others at the top
abbrev leaf : TreeRow → Forest TreeRow → Forest TreeRow
leaf row rest = tree row nil rest

abbrev pub app : Application
app = record {
  tree =
      tree root
      (tree list (leaf (chosen 2) (leaf (bare 3 0) (leaf (chosen 4) nil)))
      (leaf entry
      (tree grid (leaf (chosen 7) (leaf (chosen 8) (leaf (chosen 9) (leaf (bare 10 0) (leaf (bare 11 0) nil)))))
      (leaf button
      (tree wide_list (leaf (chosen 14) (leaf (bare 15 0) (leaf (bare 16 0) nil))) nil)))))
      nil;
  added = 16;
  name = codes ":1.1";
  id = pos 7;
}

-- the reply to a call of a node, and the steps that it makes
abbrev pub told : TreeRow → ObjectMember → List Data → Reply
told row member body = (called app row member body).reply

abbrev pub steps : TreeRow → ObjectMember → List Data → List Step
steps row member body = (called app row member body).steps

-- the value of a property
abbrev pub value : TreeRow → ObjectProperty → Data
value row property = property_data app row property

-- a reference to a node, to none, and to some
abbrev pub to : ℕ → Data
to n = reference (codes ":1.1") (path_of n)

abbrev pub to_none : Data
to_none = reference (codes ":1.1") (codes "/org/a11y/atspi/null")

abbrev pub to_all : List ℕ → Data
to_all ns = references (map (λ n. (codes ":1.1", path_of n)) ns)

-- arguments: signed numbers, and a text
abbrev pub one : ℤ → List Data
one z = int z ∷ []

abbrev pub two : ℤ → ℤ → List Data
two y z = int y ∷ one z

abbrev pub three : ℤ → ℤ → ℤ → List Data
three x y z = int x ∷ two y z

abbrev pub written : List ℕ → List Data
written text = text_data text ∷ []
