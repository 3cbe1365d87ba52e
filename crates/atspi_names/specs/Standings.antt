-- For each connection the names in whose lists it stands, as they are kept beside the lists.
use Rattle.std.specs.Prelude.{◌≡◌, ℕ, Bool, false, ◌&&◌, List, Option, None, Some, if◌then◌else◌}
use Rattle.std.specs.Ordering.{nat_cmp}
use Rattle.std.specs.Cmp.Lexicographic.{slice_cmp}
use Rattle.std.specs.BTreeMap as tree
use Rattle.std.specs.BTreeMap.{BTreeMap, is_at}
use Rattle.std.specs.BTreeSet as set
use Rattle.std.specs.BTreeSet.{BTreeSet}

abbrev pub Standings : Type 0
Standings = BTreeMap ℕ (BTreeSet (List ℕ))

-- the names of one connection have this one
abbrev pub has_name : Option (BTreeSet (List ℕ)) → List ℕ → Bool
has_name None name = false
has_name (Some names) name = set.contains (slice_cmp nat_cmp) names name

-- the connection is noted at the name
abbrev pub notes : Standings → ℕ → List ℕ → Bool
notes standings conn name = has_name (tree.get nat_cmp standings conn) name

-- the connection and the name are these two
abbrev pub is_pair : ℕ → List ℕ → ℕ → List ℕ → Bool
is_pair conn name c q = is_at (nat_cmp conn) c && is_at (slice_cmp nat_cmp name) q

-- at the connection and the name the note is this one now, and elsewhere as it was
abbrev pub SetsNote : Standings → Standings → ℕ → List ℕ → Bool → Type 0
SetsNote old new conn name b =
    (c : ℕ) (q : List ℕ) → notes new c q ≡ (if is_pair conn name c q then b else notes old c q)

-- two sets have the same names
abbrev pub SameNames : BTreeSet (List ℕ) → BTreeSet (List ℕ) → Type 0
SameNames old new = (q : List ℕ) → set.contains (slice_cmp nat_cmp) new q ≡ set.contains (slice_cmp nat_cmp) old q

-- nothing is noted anew or forgotten
abbrev pub SameNotes : Standings → Standings → Type 0
SameNotes old new = (c : ℕ) (q : List ℕ) → notes new c q ≡ notes old c q

-- the connection is noted nowhere now
abbrev pub ForgetsConnection : Standings → Standings → ℕ → Type 0
ForgetsConnection old new conn =
    (c : ℕ) (q : List ℕ) → notes new c q ≡ (if is_at (nat_cmp conn) c then false else notes old c q)
