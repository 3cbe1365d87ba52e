-- Notes of which node names which, set and forgotten one after another.
use Rattle.std.proofs.Common.{◌≡◌, ◌+◌, ◌<◌, ℕ, Bool, true, false, cond, ◌&&◌, Some, List, [], ◌∷◌, ◌++◌, take, map, length, get_or, refl, sym, ap, ◌∙◌, subst, arith}
use Rattle.std.specs.List.{AllZip, list_any}
use Rattle.std.specs.Ordering.{nat_cmp, is_eq}
use Rattle.std.specs.Map.{lookup}
use Rattle.std.specs.BTreeMap.{is_at}
use Rattle.std.specs.BTreeSet as set
use Rattle.std.specs.BTreeSet.{BTreeSet}
use Rattle.std.proofs.lemmas.Bool.Decides.{nat_tests}
use Rattle.std.proofs.lemmas.List.{map_more}
use Rattle.atspi_tree_model.specs.Row.{Each}
use Rattle.atspi_tree_model.proofs.Labels.{each_weaker}
use Rattle.atspi_tree.specs.Namers.{Namers, notes, has_namer, is_pair, SetsNote, KeepsNotes, KeepsOthers, KeepsNamed}
use Rattle.atspi_tree.proofs.Keys.{is_same, is_other}
use Rattle.atspi_tree.proofs.Noted.{each_append}

at_self : (n : ℕ) → is_eq (nat_cmp n n) ≡ true
at_self n = grind (arith, nat_tests)

-- what is noted of the two
pub set_here : (old new : Namers) (t n : ℕ) (b : Bool) → SetsNote old new t n b → notes new t n ≡ b
set_here old new t n b s = s t n ∙ (rw (at_self t, at_self n) refl)

-- a note that is set keeps the others
pub set_keeps : (old new : Namers) (t n : ℕ) → SetsNote old new t n true → KeepsNotes old new
set_keeps old new t n s q m h = s q m ∙ at (is_pair t n q m)
  where
    at : (b : Bool) → cond b true (notes old q m) ≡ true
    at true = refl
    at false = h

-- and says nothing of other nodes
pub set_others : (old new : Namers) (t n : ℕ) (b : Bool) → SetsNote old new t n b → KeepsOthers old new n
set_others old new t n b s q m e = s q m ∙ (rw (is_other n m e) (at (is_at (nat_cmp t) q)))
  where
    at : (d : Bool) → cond (d && false) b (notes old q m) ≡ notes old q m
    at true = refl
    at false = refl

-- nor of other targets
set_else : (old new : Namers) (t n : ℕ) (b : Bool) → SetsNote old new t n b → (q m : ℕ) → is_eq (nat_cmp t q) ≡ false → notes new q m ≡ notes old q m
set_else old new t n b s q m e = s q m ∙ (rw e refl)

-- one more target is noted
pub record IsNoting (first now : Namers) (node : ℕ) (targets : List ℕ) : Type 0 where
  pub kept : KeepsNotes first now
  pub noted : Each (λ t. notes now t node ≡ true) targets

pub noted_more : (first now new : Namers) (node x : ℕ) (done more : List ℕ) → IsNoting first now node done → SetsNote now new x node true → more ≡ done ++ x ∷ [] → IsNoting first new node more
noted_more first now new node x done more h s e = record {
  kept = λ t n k. set_keeps now new x node s t n (h.kept t n k);
  noted = subst (Each (λ t. notes new t node ≡ true)) (sym e)
      (each_append (λ t. notes new t node ≡ true) done (x ∷ [])
      (each_weaker (λ t. notes now t node ≡ true) (λ t. notes new t node ≡ true) (λ t k. set_keeps now new x node s t node k) done h.noted)
      (set_here now new x node true s, tt));
}

-- a target that is not among those still named is forgotten
pub named_more : (first now new : Namers) (named : BTreeSet ℕ) (node x : ℕ) → KeepsNamed first now named node → SetsNote now new x node false → set.contains nat_cmp named x ≡ false
    → KeepsNamed first new named node
named_more first now new named node x h s out t inside = at (is_eq (nat_cmp x t)) refl
  where
    at : (b : Bool) → is_eq (nat_cmp x t) ≡ b → notes new t node ≡ notes first t node
    at true e =
        let z : set.contains nat_cmp named t ≡ false = subst (λ q. set.contains nat_cmp named q ≡ false) (is_same x t e) out in
        cc
    at false e = set_else now new x node false s t node e ∙ h t inside

-- what was copied notes the same
pub copied : (es es' : List (ℕ × BTreeSet ℕ)) → AllZip (λ (a b : ℕ × BTreeSet ℕ). (b.0 ≡ a.0) × AllZip (λ (x y : ℕ). y ≡ x) a.1.keys b.1.keys) es es'
    → (t n : ℕ) → has_namer (lookup (λ k. is_eq (nat_cmp t k)) es') n ≡ has_namer (lookup (λ k. is_eq (nat_cmp t k)) es) n
copied [] [] z t n = refl
copied [] (y ∷ ys) z t n = absurd z
copied (x ∷ xs) [] z t n = absurd z
copied (x ∷ xs) (y ∷ ys) z t n = rw z.0.0 (at (is_eq (nat_cmp t x.0)) (copied xs ys z.1 t n))
  where
    same : (ks ms : List ℕ) → AllZip (λ (x y : ℕ). y ≡ x) ks ms → ms ≡ ks
    same [] [] w = refl
    same [] (m ∷ ms) w = absurd w
    same (k ∷ ks) [] w = absurd w
    same (k ∷ ks) (m ∷ ms) w = rw (w.0, same ks ms w.1) refl

    at : (b : Bool) → has_namer (lookup (λ k. is_eq (nat_cmp t k)) ys) n ≡ has_namer (lookup (λ k. is_eq (nat_cmp t k)) xs) n
        → has_namer (cond b (Some y.1) (lookup (λ k. is_eq (nat_cmp t k)) ys)) n ≡ has_namer (cond b (Some x.1) (lookup (λ k. is_eq (nat_cmp t k)) xs)) n
    at true e = ap (list_any (is_at (nat_cmp n))) (same x.1.keys y.1.keys z.0.1)
    at false e = e

-- a set of targets with one more
pub listed_more : (old new : BTreeSet ℕ) (rs : List (ℕ × ℕ)) (i : ℕ) → i < length rs
    → ((q : ℕ) → set.contains nat_cmp new q ≡ cond (is_at (nat_cmp (get_or rs i (0, 0)).1) q) true (set.contains nat_cmp old q))
    → Each (λ t. set.contains nat_cmp old t ≡ true) (map (λ r. r.1) (take i rs)) → Each (λ t. set.contains nat_cmp new t ≡ true) (map (λ r. r.1) (take (i + 1) rs))
listed_more old new rs i l u h =
    subst (Each (λ t. set.contains nat_cmp new t ≡ true)) (sym (map_more (λ (r : ℕ × ℕ). r.1) rs i (0, 0) l))
    (each_append (λ t. set.contains nat_cmp new t ≡ true) (map (λ r. r.1) (take i rs)) ((get_or rs i (0, 0)).1 ∷ [])
    (each_weaker (λ t. set.contains nat_cmp old t ≡ true) (λ t. set.contains nat_cmp new t ≡ true) (λ t e. u t ∙ at (is_at (nat_cmp (get_or rs i (0, 0)).1) t) (set.contains nat_cmp old t) e) (map (λ r. r.1) (take i rs)) h)
    (u (get_or rs i (0, 0)).1 ∙ (rw (at_self (get_or rs i (0, 0)).1) refl), tt))
  where
    at : (b d : Bool) → d ≡ true → cond b true d ≡ true
    at true d e = refl
    at false d e = e
