-- The room: the tree of the worked cases about edits and steps, and its rows.
use Rattle.std.specs.Prelude.{ℕ, ℤ, zero, suc, true, false, List, [], ◌∷◌, Option, Some, None, Result, codes}
use Rattle.atspi_tree_model.specs.declared.contents.Kinds.{Kinds}
use Rattle.atspi_tree_model.specs.declared.contents.FaceData.TheVariants.{Chars}
use Rattle.atspi_tree_model.specs.declared.step.Seed.{Seed}
use Rattle.atspi_tree_model.specs.declared.step.Step.{Step}
use Rattle.atspi_tree_model.specs.declared.edit.Edit.{Edit}
use Rattle.atspi_tree_model.specs.declared.edit.EditFault.{EditFault}
use Rattle.atspi_tree_model.specs.declared.news.Reference.{Reference}
use Rattle.atspi_tree_model.specs.declared.news.Item.{Item}
use Rattle.atspi_tree_model.specs.Forest.{Forest, nil, tree, find, seats}
use Rattle.atspi_tree_model.specs.Row.{TextContents, TreeRow}
use Rattle.atspi_tree_model.specs.RowRules.{rows}
use Rattle.atspi_tree_model.specs.Tree.{is_node, shape_of, after}
use Rattle.atspi_tree_model.specs.View.{Told}
use Rattle.atspi_tree_model.specs.Edits.{steps_of, steps_of_tree}

-- no interface
abbrev pub no_kinds : Kinds
no_kinds = record { text = false; editable = false; selection = false; table = false; action = false }

-- a text without a letter
abbrev pub no_text : List ℕ
no_text = []

-- a node of this number with these states, and nothing else
abbrev pub bare : ℕ → ℕ → TreeRow
bare n states = record {
  shape = record { node = n; name = []; description = []; role = 0; states = states; kinds = no_kinds; relations = [] };
  contents = record { text = None; columns = None; actions = [] };
}

-- the root
abbrev pub root : TreeRow
root = bare 0 0

-- a list, of which children can be selected
abbrev pub list : TreeRow
list = record (bare 1 0) { shape = record (bare 1 0).shape { kinds = record no_kinds { selection = true } } }

-- a word of five characters, the second of them not in ASCII
abbrev pub hello : List ℕ
hello = 104 ∷ 233 ∷ 108 ∷ 108 ∷ 111 ∷ []

-- that word, with the caret before its fourth character and the second selected
abbrev pub hello_there : TextContents
hello_there = record { characters = hello; caret = 3; selections = (1, 2) ∷ [] }

-- an entry with that word; its relations of kind 1 are to 3 and 5, that of kind 2 is to 4
abbrev pub entry : TreeRow
entry = record {
  shape = record (bare 2 0).shape {
    kinds = record no_kinds { text = true; editable = true };
    relations = (1, 3) ∷ (2, 4) ∷ (1, 5) ∷ [];
  };
  contents = record (bare 2 0).contents { text = Some hello_there };
}

-- a button that is focused and checked, with five actions
abbrev pub button : TreeRow
button = record {
  shape = record {
    node = 3;
    name = codes "b";
    description = codes "d";
    role = 43;
    states = 4112;
    kinds = record no_kinds { action = true };
    relations = [];
  };
  contents = record (bare 3 0).contents {
    actions = codes "toggle" ∷ codes "expand" ∷ codes "press" ∷ codes "focus" ∷ codes "jump" ∷ [];
  };
}

-- a list, of which many children can be selected at once
abbrev pub wide_list : TreeRow
wide_list =
    record (bare 7 262144) { shape = record (bare 7 262144).shape { kinds = record no_kinds { selection = true } } }

-- a button that is expanded and pressed
abbrev pub pressed_button : TreeRow
pressed_button = record {
  shape = record (bare 9 1049600).shape { kinds = record no_kinds { action = true } };
  contents = record (bare 9 0).contents { actions = codes "toggle" ∷ codes "expand" ∷ codes "press" ∷ [] };
}

-- a text that cannot be edited
abbrev pub sign : TreeRow
sign = record {
  shape = record (bare 10 0).shape { kinds = record no_kinds { text = true } };
  contents =
      record (bare 10 0).contents { text = Some (record { characters = codes "abc"; caret = 0; selections = [] }) };
}

-- below the root: a list, whose children are 6, which is focused and selected, 4, which is focused, and 5, which is
-- selected; an entry; a button; a wide list, whose children are 8, which is selected, and a pressed button; and a sign
abbrev pub room : Forest TreeRow
room =
    tree root
    (tree list (tree (bare 6 8392704) nil (tree (bare 4 4096) nil (tree (bare 5 8388608) nil nil)))
    (tree entry nil
    (tree button nil
    (tree wide_list (tree (bare 8 8388608) nil (tree pressed_button nil nil)) (tree sign nil nil)))))
    nil

-- the steps of an edit, or why it is refused, where so many nodes were ever added
abbrev pub answer_at : ℕ → Edit → Result (List Step) EditFault
answer_at added edit = steps_of_tree room added edit

-- the same where twelve nodes were, of which 11 and 12 are gone
abbrev pub answer : Edit → Result (List Step) EditFault
answer edit = answer_at 12 edit

-- the same where no node is there at all
abbrev pub nowhere : Edit → Result (List Step) EditFault
nowhere edit = steps_of_tree nil 0 edit

-- a seed of a role and a name
abbrev pub plain : ℕ → List ℕ → Seed
plain role name =
    record { role = role; name = name; text = None; editable = false; columns = None; select = false; actions = [] }

-- a seed with so many columns
abbrev pub with_columns : ℕ → Seed
with_columns n = record (plain 0 []) { columns = Some n }

-- a seed with this text
abbrev pub with_text : List ℕ → Seed
with_text text = record (plain 0 []) { text = Some text }

-- the row of a node after a step
abbrev pub row_after : Step → ℕ → Option TreeRow
row_after step n = find (is_node n) (after rows room step)

-- the entry with another text
abbrev pub entry_with : TextContents → Option TreeRow
entry_with text = Some (record entry { contents = record entry.contents { text = Some text } })

-- each node of a tree in preorder: its parent, none for the root, its index there, and its number
abbrev pub nodes : Forest TreeRow → List (Option ℕ × ℕ × ℕ)
nodes f = at (seats (λ (row : TreeRow). Some row.shape.node) None 0 f)
  where
    at : List (Option ℕ × ℕ × TreeRow) → List (Option ℕ × ℕ × ℕ)
    at [] = []
    at (s ∷ ss) = (s.0, s.1, s.2.shape.node) ∷ at ss

-- so many selections of the first character
abbrev pub marks : ℕ → List (ℕ × ℕ)
marks zero = []
marks (suc n) = (0, 1) ∷ marks n

-- an answer where the sign's text has so many selections
abbrev pub sign_with : ℕ → Edit → Result (List Step) EditFault
sign_with n edit = steps_of (shape_of room) 12 (Chars (codes "abc") 0 (marks n)) edit

-- a seed with all that one may have
abbrev pub full_seed : Seed
full_seed = record {
  role = 61;
  name = codes "n";
  text = Some hello;
  editable = true;
  columns = Some 2;
  select = true;
  actions = codes "a" ∷ [];
}

-- the root with two nodes below it
abbrev pub small : TreeRow → TreeRow → Forest TreeRow
small first second = tree root (tree first nil (tree second nil nil)) nil

-- a table of two columns
abbrev pub grid : TreeRow
grid = record {
  shape = record (bare 11 0).shape { kinds = record no_kinds { table = true } };
  contents = record (bare 11 0).contents { columns = Some 2 };
}

-- a reader who was told all
abbrev pub told_all : List ℕ → Told
told_all path = record { text = true; caret = true; columns = true }

-- of each item its object, its parent, its index and its count of children
abbrev pub brief : List Item → List (Reference × Reference × ℤ × ℤ)
brief [] = []
brief (item ∷ items) = (item.object, item.parent, item.index, item.children) ∷ brief items
