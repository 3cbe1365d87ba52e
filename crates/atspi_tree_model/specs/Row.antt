-- The row of a node in the application's tree: its shape, which the tree keeps, and its contents, which the interface
-- objects keep.
use Rattle.std.specs.Prelude.{ℕ, ◌+◌, ◌≡◌, ◌≤◌, ◌<◌, ◌==◌, nat_le, ℤ, pos, negsuc, Bool, true, cond, not, List, [], ◌∷◌}
use Rattle.std.specs.Prelude.{◌++◌, map, filter, length, take, drop, Option, Some, None, is_some, encode_utf8_all}
use Rattle.atspi_tree_model.specs.declared.limits.TheConstants.{NAME_LIMIT, TEXT_LIMIT, MARK_LIMIT, COLUMN_LIMIT}
use Rattle.atspi_tree_model.specs.declared.limits.TheConstants.{ACTION_LIMIT}
use Rattle.atspi_tree_model.specs.declared.contents.Kinds.{Kinds}

-- all of a row but its contents; a relation is a pair of its kind and one target, in the order of the targets
pub record ShapeRow : Type 0 where
  pub node : ℕ
  pub name : List ℕ
  pub description : List ℕ
  pub role : ℕ
  pub states : ℕ
  pub kinds : Kinds
  pub relations : List (ℕ × ℕ)

-- a text, with its caret and its selections
pub record TextContents : Type 0 where
  pub characters : List ℕ
  pub caret : ℕ
  pub selections : List (ℕ × ℕ)

-- the contents of a node
pub record Contents : Type 0 where
  pub text : Option TextContents
  pub columns : Option ℕ
  pub actions : List (List ℕ)

-- a row of the application's tree
pub record TreeRow : Type 0 where
  pub shape : ShapeRow
  pub contents : Contents

-- each element has this property
abbrev pub Each : {A : Type 0} → (A → Type 0) → List A → Type 0
Each P [] = Unit {0}
Each P (x ∷ xs) = P x × Each P xs

-- there is a value, and it has this property
abbrev pub Holds : {A : Type 0} → (A → Type 0) → Option A → Type 0
Holds P None = ⊥
Holds P (Some x) = P x

-- the value, if there is one, has this property
abbrev pub HoldsIfThere : {A : Type 0} → (A → Type 0) → Option A → Type 0
HoldsIfThere P None = Unit {0}
HoldsIfThere P (Some x) = P x

-- a change of the value that is there
abbrev pub on_some : {A : Type 0} → (A → A) → Option A → Option A
on_some f None = None
on_some f (Some x) = Some (f x)

-- a text put before the character at this place
abbrev pub with_insert : ℕ → List ℕ → List ℕ → List ℕ
with_insert at x text = take at text ++ (x ++ drop at text)

-- so many characters taken out at this place
abbrev pub with_delete : ℕ → ℕ → List ℕ → List ℕ
with_delete at n text = take at text ++ drop (at + n) text

-- the same where the place is in the text, and else nothing
abbrev pub insert_there : ℤ → List ℕ → List ℕ → List ℕ
insert_there (pos at) x text = cond (nat_le at (length text)) (with_insert at x text) text
insert_there (negsuc _) x text = text

-- the same where the whole range is in the text, and else nothing
abbrev pub delete_there : ℤ → ℤ → List ℕ → List ℕ
delete_there (pos at) (pos n) text = cond (nat_le (at + n) (length text)) (with_delete at n text) text
delete_there (pos at) (negsuc _) text = text
delete_there (negsuc _) n text = text

-- the targets of one kind
abbrev pub targets_of : ℕ → List (ℕ × ℕ) → List ℕ
targets_of kind relations = map (λ r. r.1) (filter (λ r. r.0 == kind) relations)

-- these targets in place of those of that kind
abbrev pub with_targets : ℕ → List ℕ → List (ℕ × ℕ) → List (ℕ × ℕ)
with_targets kind targets relations = filter (λ r. not (r.0 == kind)) relations ++ map (λ t. (kind, t)) targets

-- the relations whose targets are not gone
abbrev pub without_targets : (ℕ → Bool) → List (ℕ × ℕ) → List (ℕ × ℕ)
without_targets gone relations = filter (λ r. not (gone r.1)) relations

-- a name or description has so many bytes at most
abbrev pub IsName : List ℕ → Type 0
IsName text = length (encode_utf8_all text) ≤ NAME_LIMIT

-- the limits of a shape, and a text that can be edited is a text
pub record IsShape (row : ShapeRow) : Type 0 where
  pub name : IsName row.name
  pub description : IsName row.description
  pub editable : row.kinds.editable ≡ true → row.kinds.text ≡ true

-- the limits of a text, its caret and its selections
pub record IsText (text : TextContents) : Type 0 where
  pub short : length text.characters ≤ TEXT_LIMIT
  pub caret : text.caret ≤ length text.characters
  pub few : length text.selections ≤ MARK_LIMIT
  pub selections : Each (λ (s : ℕ × ℕ). (s.0 < s.1) × (s.1 ≤ length text.characters)) text.selections

-- a table has one column at least, and so many at most
abbrev pub IsColumns : ℕ → Type 0
IsColumns n = (1 ≤ n) × (n ≤ COLUMN_LIMIT)

-- there are contents of just the kinds that the shape names, within their limits
pub record IsContents (kinds : Kinds) (contents : Contents) : Type 0 where
  pub text : kinds.text ≡ is_some contents.text
  pub lawful_text : HoldsIfThere IsText contents.text
  pub table : kinds.table ≡ is_some contents.columns
  pub lawful_columns : HoldsIfThere IsColumns contents.columns
  pub action : kinds.action ≡ not (length contents.actions == 0)
  pub few_actions : length contents.actions ≤ ACTION_LIMIT
