-- Which rules stand in which groups, as they are kept beside the list of the rules: each rule by its place.
use Rattle.std.specs.Prelude.{◌≡◌, ℕ, Bool, false, ◌&&◌, Option, None, Some, if◌then◌else◌}
use Rattle.std.specs.Ordering.{nat_cmp}
use Rattle.std.specs.BTreeMap as tree
use Rattle.std.specs.BTreeMap.{BTreeMap, is_at}
use Rattle.std.specs.BTreeSet as set
use Rattle.atspi_match.specs.declared.rule_groups.Group.{Group}

abbrev pub Sets : Type 0
Sets = BTreeMap ℕ Group

-- the rules of one group have the one at this place
abbrev pub has_place : Option Group → ℕ → Bool
has_place None place = false
has_place (Some group) place = set.contains nat_cmp group.places place

-- how many rules were counted that ask for the value of a group, wherever they stand: none before a rule stood there
abbrev pub askers_of : Option Group → ℕ
askers_of None = 0
askers_of (Some group) = group.askers

abbrev pub askers_in : Sets → ℕ → ℕ
askers_in sets group = askers_of (tree.get nat_cmp sets group)

-- a rule stands in a group
abbrev pub notes : Sets → ℕ → ℕ → Bool
notes sets group place = has_place (tree.get nat_cmp sets group) place

abbrev pub is_pair : ℕ → ℕ → ℕ → ℕ → Bool
is_pair group place g q = is_at (nat_cmp group) g && is_at (nat_cmp place) q

-- the note of a group and a rule is this one now, and the others are as they were
abbrev pub SetsNote : Sets → Sets → ℕ → ℕ → Bool → Type 0
SetsNote old new group place b = (g q : ℕ) → notes new g q ≡ (if is_pair group place g q then b else notes old g q)

-- nothing is noted anew or forgotten
abbrev pub SameNotes : Sets → Sets → Type 0
SameNotes old new = (g q : ℕ) → notes new g q ≡ notes old g q
