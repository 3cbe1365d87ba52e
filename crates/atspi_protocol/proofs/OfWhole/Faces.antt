-- What the faces have of a node after a step.
use Rattle.std.proofs.Common.{◌≡◌, ℕ, Bool, true, false, cond, Option, Some, None, List, [], ◌∷◌, refl, ◌∙◌, subst, Ordering, Less, Equal, Greater}
use Rattle.std.specs.Ordering.{nat_cmp, eq_by_cmp, is_eq}
use Rattle.std.specs.Cmp.{nat_cmp_total, eq_by_cmp_equiv, ranked}
use Rattle.std.specs.Option.{option_map_or}
use Rattle.std.specs.FinMap.{get, insert, remove, get-insert, get-remove}
use Rattle.atspi_tree_model.specs.declared.contents.FaceData.{FaceData}
use Rattle.atspi_tree_model.specs.declared.contents.FaceData.TheVariants.{Chars, Grid, Deeds}
use Rattle.atspi_faces.specs.declared.face.change.Change.{Change}
use Rattle.atspi_faces.specs.face.Contents.{changed}
use Rattle.atspi_faces.specs.face.Nodes.{Nodes, changed_at}
use Rattle.atspi_protocol.specs.whole.Whole.{with_text, with_columns, with_actions, without}

pub same_key : (n : ℕ) → eq_by_cmp nat_cmp n n ≡ true
same_key n = (eq_by_cmp_equiv nat_cmp_total).refl n

pub other_key : (q n : ℕ) → (q ≡ n → ⊥) → eq_by_cmp nat_cmp q n ≡ false
other_key q n ne = at (nat_cmp q n) refl
  where
    at : (o : Ordering) → o ≡ nat_cmp q n → is_eq o ≡ false
    at Less e = refl
    at Equal e = absurd (ne (ranked q n Equal e))
    at Greater e = refl

-- what is put at a node, and what is elsewhere
pub put_there : (nodes : Nodes) (n : ℕ) (what : FaceData) → get (insert nodes n what) n ≡ Some what
put_there nodes n what = get-insert nat_cmp_total nodes n what n ∙ rw (same_key n) refl

pub put_elsewhere : (nodes : Nodes) (n : ℕ) (what : FaceData) (q : ℕ) → (q ≡ n → ⊥) → get (insert nodes n what) q ≡ get nodes q
put_elsewhere nodes n what q ne = get-insert nat_cmp_total nodes n what q ∙ rw (other_key q n ne) refl

taken_elsewhere : (nodes : Nodes) (n q : ℕ) → (q ≡ n → ⊥) → get (remove nodes n) q ≡ get nodes q
taken_elsewhere nodes n q ne = get-remove nat_cmp_total nodes n q ∙ rw (other_key q n ne) refl

taken_there : (nodes : Nodes) (n : ℕ) → get (remove nodes n) n ≡ None
taken_there nodes n = get-remove nat_cmp_total nodes n n ∙ rw (same_key n) refl

-- a new node
pub text_elsewhere : (n : ℕ) (text : Option (List ℕ)) (nodes : Nodes) (q : ℕ) → (q ≡ n → ⊥) → get (with_text n text nodes) q ≡ get nodes q
text_elsewhere n None nodes q ne = refl
text_elsewhere n (Some text) nodes q ne = put_elsewhere nodes n (Chars text 0 []) q ne

pub columns_elsewhere : (n : ℕ) (columns : Option ℕ) (nodes : Nodes) (q : ℕ) → (q ≡ n → ⊥) → get (with_columns n columns nodes) q ≡ get nodes q
columns_elsewhere n None nodes q ne = refl
columns_elsewhere n (Some columns) nodes q ne = put_elsewhere nodes n (Grid columns) q ne

pub actions_elsewhere : (n : ℕ) (names : List (List ℕ)) (nodes : Nodes) (q : ℕ) → (q ≡ n → ⊥) → get (with_actions n names nodes) q ≡ get nodes q
actions_elsewhere n [] nodes q ne = refl
actions_elsewhere n (name ∷ names) nodes q ne = put_elsewhere nodes n (Deeds (name ∷ names)) q ne

-- nodes that are gone
abbrev pub IsNot : ℕ → List ℕ → Type 0
IsNot q [] = Unit {0}
IsNot q (n ∷ ns) = (q ≡ n → ⊥) × IsNot q ns

pub without_elsewhere : (ns : List ℕ) (nodes : Nodes) (q : ℕ) → IsNot q ns → get (without ns nodes) q ≡ get nodes q
without_elsewhere [] nodes q h = refl
without_elsewhere (n ∷ ns) nodes q h = without_elsewhere ns (remove nodes n) q h.1 ∙ taken_elsewhere nodes n q h.0

-- what is not there does not come by taking
pub without_none : (ns : List ℕ) (nodes : Nodes) (q : ℕ) → get nodes q ≡ None → get (without ns nodes) q ≡ None
without_none [] nodes q h = h
without_none (n ∷ ns) nodes q h = without_none ns (remove nodes n) q (get-remove nat_cmp_total nodes n q ∙ gone (eq_by_cmp nat_cmp q n))
  where
    gone : (b : Bool) → cond b None (get nodes q) ≡ None
    gone true = refl
    gone false = h

equal_key : (q n : ℕ) → eq_by_cmp nat_cmp q n ≡ true → q ≡ n
equal_key q n e = by (nat_cmp q n) refl e
  where
    by : (o : Ordering) → o ≡ nat_cmp q n → is_eq o ≡ true → q ≡ n
    by Equal r e = ranked q n Equal r
    by Less r e = cc
    by Greater r e = cc

those_at : (n q : ℕ) (ns : List ℕ) (nodes : Nodes) (b : Bool) → eq_by_cmp nat_cmp q n ≡ b → (IsNot q (n ∷ ns) → ⊥)
    → ((IsNot q ns → ⊥) → get (without ns (remove nodes n)) q ≡ None) → get (without ns (remove nodes n)) q ≡ None
those_at n q ns nodes true e h rest = without_none ns (remove nodes n) q (get-remove nat_cmp_total nodes n q ∙ rw e refl)
those_at n q ns nodes false e h rest =
    rest (λ others. h ((λ same. let t : eq_by_cmp nat_cmp q n ≡ true = subst (λ m. eq_by_cmp nat_cmp q m ≡ true) same (same_key q) in cc), others))

pub without_those : (ns : List ℕ) (nodes : Nodes) (q : ℕ) → (IsNot q ns → ⊥) → get (without ns nodes) q ≡ None
without_those [] nodes q h = absurd (h tt)
without_those (n ∷ ns) nodes q h = those_at n q ns nodes (eq_by_cmp nat_cmp q n) refl h (λ g. without_those ns (remove nodes n) q g)

-- a text that is changed
pub changed_elsewhere : (nodes : Nodes) (n : ℕ) (change : Change) (q : ℕ) → (q ≡ n → ⊥) → get (changed_at nodes n change) q ≡ get nodes q
changed_elsewhere nodes n change q ne = at (get nodes n)
  where
    at : (o : Option FaceData) → get (option_map_or (λ what. insert nodes n (changed what change)) o nodes) q ≡ get nodes q
    at None = refl
    at (Some what) = put_elsewhere nodes n (changed what change) q ne

pub changed_none : (nodes : Nodes) (n : ℕ) (change : Change) → get nodes n ≡ None → get (changed_at nodes n change) n ≡ None
changed_none nodes n change h = rw h h

pub changed_there : (nodes : Nodes) (n : ℕ) (change : Change) (what : FaceData) → get nodes n ≡ Some what → get (changed_at nodes n change) n ≡ Some (changed what change)
changed_there nodes n change what h = rw h (put_there nodes n (changed what change))
