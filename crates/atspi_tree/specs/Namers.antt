-- For each node the nodes whose relations name it, as they are kept beside the table of cells.
use Rattle.std.specs.Prelude.{◌≡◌, ◌==◌, ℕ, Bool, true, false, ◌&&◌, Option, None, Some, if◌then◌else◌}
use Rattle.std.specs.Ordering.{nat_cmp}
use Rattle.std.specs.BTreeMap as tree
use Rattle.std.specs.BTreeMap.{BTreeMap, is_at}
use Rattle.std.specs.BTreeSet as set
use Rattle.std.specs.BTreeSet.{BTreeSet}
use Rattle.atspi_tree_model.specs.Forest.{Forest, EachLabel}
use Rattle.atspi_tree_model.specs.Row.{Each, ShapeRow}
use Rattle.atspi_tree_model.specs.RowRules.{shape_targets}

abbrev pub Namers : Type 0
Namers = BTreeMap ℕ (BTreeSet ℕ)

-- the nodes that name a target have this one
abbrev pub has_namer : Option (BTreeSet ℕ) → ℕ → Bool
has_namer None n = false
has_namer (Some nodes) n = set.contains nat_cmp nodes n

-- it is noted that the node n names the target t
abbrev pub notes : Namers → ℕ → ℕ → Bool
notes namers t n = has_namer (tree.get nat_cmp namers t) n

-- the target and the node are these two
abbrev pub is_pair : ℕ → ℕ → ℕ → ℕ → Bool
is_pair target node t n = is_at (nat_cmp target) t && is_at (nat_cmp node) n

-- of the target and the node this is noted now, and of others what was
abbrev pub SetsNote : Namers → Namers → ℕ → ℕ → Bool → Type 0
SetsNote old new target node b = (t n : ℕ) → notes new t n ≡ (if is_pair target node t n then b else notes old t n)

-- nothing is noted anew or forgotten
abbrev pub SameNotes : Namers → Namers → Type 0
SameNotes old new = (t n : ℕ) → notes new t n ≡ notes old t n

-- nothing is forgotten
abbrev pub KeepsNotes : Namers → Namers → Type 0
KeepsNotes old new = (t n : ℕ) → notes old t n ≡ true → notes new t n ≡ true

-- of the other nodes the same is noted
abbrev pub KeepsOthers : Namers → Namers → ℕ → Type 0
KeepsOthers old new node = (t n : ℕ) → (n == node) ≡ false → notes new t n ≡ notes old t n

-- of this node the same is noted at these targets
abbrev pub KeepsNamed : Namers → Namers → BTreeSet ℕ → ℕ → Type 0
KeepsNamed old new named node = (t : ℕ) → set.contains nat_cmp named t ≡ true → notes new t node ≡ notes old t node

-- no node names the target now
abbrev pub ForgetsTarget : Namers → Namers → ℕ → Type 0
ForgetsTarget old new target = (t n : ℕ) → notes new t n ≡ (if is_at (nat_cmp target) t then false else notes old t n)

-- each target of a row's relations is noted with the row's node
abbrev pub IsNoted : Namers → ShapeRow → Type 0
IsNoted namers row = Each (λ t. notes namers t row.node ≡ true) (shape_targets row)

-- no node that names another is left out
abbrev pub Covers : Namers → Forest ShapeRow → Type 0
Covers namers f = EachLabel (IsNoted namers) f
