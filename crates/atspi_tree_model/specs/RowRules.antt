-- What trees ask of a row. The rules of steps and trees are written once, over these, and serve both the whole rows of
-- the application and the shapes that its tree keeps.
use Rattle.std.specs.Prelude.{ℕ, ◌+◌, ◌≡◌, ◌≤◌, ◌<◌, ◌==◌, pos, Bool, true, not, List, [], map, length, take, drop}
use Rattle.std.specs.Prelude.{Option, Some, None, is_some}
use Rattle.atspi_tree_model.specs.declared.limits.TheConstants.{RELATION_KINDS, STATE_COUNT}
use Rattle.atspi_tree_model.specs.declared.contents.Kinds.{Kinds}
use Rattle.atspi_tree_model.specs.declared.step.Seed.{Seed}
use Rattle.atspi_tree_model.specs.declared.step.Step.{Step}
use Rattle.atspi_tree_model.specs.declared.step.Step.TheVariants.{SetName, SetDescription, SetRole, SetState, Insert}
use Rattle.atspi_tree_model.specs.declared.step.Step.TheVariants.{Delete, Caret, TextSelect, Relate}
use Rattle.atspi_tree_model.specs.States.{with_state, first_states}
use Rattle.atspi_tree_model.specs.Row.{ShapeRow, TextContents, Contents, TreeRow, Holds, on_some, insert_there}
use Rattle.atspi_tree_model.specs.Row.{delete_there, with_targets, without_targets, IsShape, IsContents}

-- what a kind of row is to a tree
pub record RowRules (A : Type 0) : Type 1 where
  pub number : A → ℕ  -- the node's number
  pub first : ℕ → Seed → A  -- the row of a new node
  pub changed : Step → A → A  -- the row after a step about its own node
  pub forgetting : (ℕ → Bool) → A → A  -- the row when nodes are gone that were targets of its relations
  pub targets : A → List ℕ  -- the targets of its relations
  pub IsLawful : A → Type 0  -- its limits are kept
  pub Allows : Step → A → Type 0  -- what a step about its own node names is there

-- the interfaces of a new node
abbrev pub first_kinds : Seed → Kinds
first_kinds seed = record {
  text = is_some seed.text;
  editable = seed.editable;
  selection = seed.select;
  table = is_some seed.columns;
  action = not (length seed.actions == 0);
}

-- the shape of a new node: no description, the first states, no relations
abbrev pub first_shape : ℕ → Seed → ShapeRow
first_shape n seed = record {
  node = n;
  name = seed.name;
  description = [];
  role = seed.role;
  states = first_states;
  kinds = first_kinds seed;
  relations = [];
}

-- a shape after a step about its node; the contents of a text are no part of it
abbrev pub changed_shape : Step → ShapeRow → ShapeRow
changed_shape (SetName _ name) row = record row { name = name }
changed_shape (SetDescription _ text) row = record row { description = text }
changed_shape (SetRole _ role) row = record row { role = role }
changed_shape (SetState _ state on) row = record row { states = with_state state on row.states }
changed_shape (Relate _ kind targets) row = record row { relations = with_targets kind targets row.relations }
changed_shape _ row = row

-- a shape when nodes are gone that were targets
abbrev pub forgetting_shape : (ℕ → Bool) → ShapeRow → ShapeRow
forgetting_shape gone row = record row { relations = without_targets gone row.relations }

-- the targets of all its relations
abbrev pub shape_targets : ShapeRow → List ℕ
shape_targets row = map (λ r. r.1) row.relations

-- a state is one of those that there are, so is the kind of a relation, and what changes a text needs one
abbrev pub ShapeAllows : Step → ShapeRow → Type 0
ShapeAllows (SetState _ state on) row = state < STATE_COUNT
ShapeAllows (Relate _ kind targets) row = (1 ≤ kind) × (kind ≤ RELATION_KINDS)
ShapeAllows (Insert _ at text) row = row.kinds.text ≡ true
ShapeAllows (Delete _ at text) row = row.kinds.text ≡ true
ShapeAllows (Caret _ at) row = row.kinds.text ≡ true
ShapeAllows (TextSelect _ marks) row = row.kinds.text ≡ true
ShapeAllows _ row = Unit {0}

-- the rules of shapes
abbrev pub shapes : RowRules ShapeRow
shapes = record {
  number = λ row. row.node;
  first = first_shape;
  changed = changed_shape;
  forgetting = forgetting_shape;
  targets = shape_targets;
  IsLawful = IsShape;
  Allows = ShapeAllows;
}

-- the text of a new node, its caret before the first character and nothing selected
abbrev pub first_text : Option (List ℕ) → Option TextContents
first_text None = None
first_text (Some x) = Some (record { characters = x; caret = 0; selections = [] })

-- the contents of a new node
abbrev pub first_contents : Seed → Contents
first_contents seed = record { text = first_text seed.text; columns = seed.columns; actions = seed.actions }

-- a text with a text put in; nothing is selected then
abbrev pub after_insert : ℕ → List ℕ → TextContents → TextContents
after_insert at x text = record text { characters = insert_there (pos at) x text.characters; selections = [] }

-- the same with a text taken out
abbrev pub after_delete : ℕ → List ℕ → TextContents → TextContents
after_delete at x text =
    record text { characters = delete_there (pos at) (pos (length x)) text.characters; selections = [] }

-- contents after a step about their node
abbrev pub changed_contents : Step → Contents → Contents
changed_contents (Insert _ at x) row = record row { text = on_some (after_insert at x) row.text }
changed_contents (Delete _ at x) row = record row { text = on_some (after_delete at x) row.text }
changed_contents (Caret _ at) row =
    record row { text = on_some (λ (t : TextContents). record t { caret = at }) row.text }
changed_contents (TextSelect _ marks) row =
    record row { text = on_some (λ (t : TextContents). record t { selections = marks }) row.text }
changed_contents _ row = row

-- a place to insert at is in the text, and what is deleted is what stands there
abbrev pub ContentsAllow : Step → Contents → Type 0
ContentsAllow (Insert _ at x) row = Holds (λ (t : TextContents). at ≤ length t.characters) row.text
ContentsAllow (Delete _ at x) row =
    Holds (λ (t : TextContents). (at + length x ≤ length t.characters) × (take (length x) (drop at t.characters) ≡ x))
    row.text
ContentsAllow (Caret _ at) row = Holds (λ (t : TextContents). Unit {0}) row.text
ContentsAllow (TextSelect _ marks) row = Holds (λ (t : TextContents). Unit {0}) row.text
ContentsAllow _ row = Unit {0}

-- the rules of whole rows
abbrev pub rows : RowRules TreeRow
rows = record {
  number = λ row. row.shape.node;
  first = λ n seed. record { shape = first_shape n seed; contents = first_contents seed };
  changed = λ step row. record { shape = changed_shape step row.shape; contents = changed_contents step row.contents };
  forgetting = λ gone row. record row { shape = forgetting_shape gone row.shape };
  targets = λ row. shape_targets row.shape;
  IsLawful = λ row. IsShape row.shape × IsContents row.shape.kinds row.contents;
  Allows = λ step row. ShapeAllows step row.shape × ContentsAllow step row.contents;
}
