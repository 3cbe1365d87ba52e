-- States that are cleared of several nodes, one after another.
use Rattle.std.proofs.Common.{◌≡◌, ℕ, zero, suc, ◌+◌, ◌-◌, ◌<◌, ◌≤◌, ◌==◌, Bool, true, false, cond, not, List, [], ◌∷◌, ◌++◌, length, drop, get_or, map, refl, sym, ap, ◌∙◌, subst, add-one, arith}
use Rattle.std.specs.Prelude.{◌&&◌, filter, nat_le}
use Rattle.std.proofs.lemmas.Bool.{eq-eqb, leb-true, leb-false}
use Rattle.std.proofs.lemmas.List.{append_assoc, append-nil, map-append, drop_more}
use Rattle.std.proofs.lemmas.List.Elements.{filter-append}
use Rattle.atspi_tree_model.specs.Edits.{node_has_state, numbers_to, switch, switched}
use Rattle.atspi_tree_model.specs.Forest.{Forest, nil, tree, has}
use Rattle.atspi_tree_model.specs.Row.{ShapeRow}
use Rattle.atspi_tree_model.specs.States.{has_state, focused, selected}
use Rattle.atspi_tree_model.specs.Tree.{is_shape}
use Rattle.atspi_tree_model.proofs.Found.{count-has, has-count, not_there}
use Rattle.atspi_tree.specs.TreeShape.{TreeShape, IsLawful}
use Rattle.atspi_tree_model.specs.declared.step.Step.{Step}
use Rattle.atspi_tree_model.specs.declared.step.Step.TheVariants.{SetState}
use Rattle.atspi_tree_edits.specs.inner.Switches.{unfocusing, unselecting}

-- the numbers below another, rising
abbrev pub below : ℕ → List ℕ
below zero = []
below (suc k) = below k ++ k ∷ []

pub all_below : (k : ℕ) → numbers_to k ≡ below (suc k)
all_below zero = refl
all_below (suc k) = ap (λ (l : List ℕ). l ++ suc k ∷ []) (all_below k)

-- one node of some
cleared_one : (m s : ℕ) (b : Bool) → map (λ m. SetState m s false) (cond b (m ∷ []) []) ≡ switch m s false b
cleared_one m s true = refl
cleared_one m s false = refl

pub not_itself : (f : Forest ShapeRow) (n m : ℕ) (steps : List Step) → m ≡ n → steps ≡ steps ++ unfocusing f n (m ∷ [])
not_itself f n m steps e =
    sym (append-nil steps) ∙ ap (λ (b : Bool). steps ++ map (λ m. SetState m focused false) (cond (not b && node_has_state f m focused) (m ∷ []) [])) (sym (eq-eqb m n e))

pub another : (f : Forest ShapeRow) (n m : ℕ) → (m == n) ≡ false → switched f m 12 false ≡ unfocusing f n (m ∷ [])
another f n m e =
    sym (cleared_one m 12 (node_has_state f m 12))
    ∙ ap (λ (b : Bool). map (λ m. SetState m focused false) (cond (not b && node_has_state f m focused) (m ∷ []) [])) (sym e)

-- a node that is not there has no state
stateless : (f : Forest ShapeRow) (m s : ℕ) → has (is_shape m) f ≡ false → node_has_state f m s ≡ false
stateless nil m s h = refl
stateless (tree a c r) m s h = at (a.node == m) (has (is_shape m) c) (has (is_shape m) r) (stateless c m s) (stateless r m s) h
  where
    at : (b x y : Bool) → (x ≡ false → node_has_state c m s ≡ false) → (y ≡ false → node_has_state r m s ≡ false) → cond b true (cond x true y) ≡ false
        → cond (b && has_state s a.states) true (cond (node_has_state c m s) true (node_has_state r m s)) ≡ false
    at true x y hc hr e = cc
    at false true y hc hr e = cc
    at false false true hc hr e = cc
    at false false false hc hr e = rw (hc refl, hr refl) refl

unfocusing-last : (f : Forest ShapeRow) (n k : ℕ) → unfocusing f n (below (suc k)) ≡ unfocusing f n (below k) ++ unfocusing f n (k ∷ [])
unfocusing-last f n k =
    ap (map (λ m. SetState m focused false)) (filter-append (λ m. not (m == n) && node_has_state f m focused) (below k) (k ∷ []))
    ∙ map-append (λ m. SetState m focused false) (filter (λ m. not (m == n) && node_has_state f m focused) (below k)) (filter (λ m. not (m == n) && node_has_state f m focused) (k ∷ []))

none_of_absent : (f : Forest ShapeRow) (n m : ℕ) → has (is_shape m) f ≡ false → unfocusing f n (m ∷ []) ≡ []
none_of_absent f n m h = rw (stateless f m focused h) (at (not (m == n)))
  where
    at : (b : Bool) → map (λ m. SetState m focused false) (cond (b && false) (m ∷ []) []) ≡ []
    at true = refl
    at false = refl

-- numbers that no node has make no step
skipped : (f : Forest ShapeRow) (n a d : ℕ) → ((m : ℕ) → a ≤ m → m < a + d → has (is_shape m) f ≡ false) → unfocusing f n (below (a + d)) ≡ unfocusing f n (below a)
skipped f n a zero h =
    let same : a + 0 ≡ a = omega arith in
    ap (λ (j : ℕ). unfocusing f n (below j)) same
skipped f n a (suc d) h =
    let up : a + suc d ≡ suc (a + d) = omega arith in
    ap (λ (j : ℕ). unfocusing f n (below j)) up
    ∙ unfocusing-last f n (a + d)
    ∙ ap (λ (l : List Step). unfocusing f n (below (a + d)) ++ l) (none_of_absent f n (a + d) (h (a + d) (omega arith) (omega arith)))
    ∙ append-nil (unfocusing f n (below (a + d)))
    ∙ skipped f n a d (λ m l k. h m l (omega arith))

pub skipped_to : (f : Forest ShapeRow) (n a b : ℕ) → a ≤ b → ((m : ℕ) → a ≤ m → m < b → has (is_shape m) f ≡ false) → unfocusing f n (below b) ≡ unfocusing f n (below a)
skipped_to f n a b l h =
    let whole : a + (b - a) ≡ b = omega arith in
    subst (λ (j : ℕ). unfocusing f n (below j) ≡ unfocusing f n (below a)) whole (skipped f n a (b - a) (λ m x y. h m x (omega arith)))

-- up to a number from which on there is no node, all is said
pub all_skipped : (t : TreeShape) (n k : ℕ) → IsLawful t → ((m : ℕ) → k ≤ m → has (is_shape m) t.rows ≡ false) → unfocusing t.rows n (numbers_to t.added) ≡ unfocusing t.rows n (below k)
all_skipped t n k lawful none = ap (unfocusing t.rows n) (all_below t.added) ∙ at (nat_le k (suc t.added)) refl
  where
    beyond : (m : ℕ) → suc t.added ≤ m → has (is_shape m) t.rows ≡ false
    beyond m l = not_there (is_shape m) t.rows (lawful.numbered m (omega arith))

    at : (b : Bool) → nat_le k (suc t.added) ≡ b → unfocusing t.rows n (below (suc t.added)) ≡ unfocusing t.rows n (below k)
    at true e = skipped_to t.rows n k (suc t.added) (leb-true k (suc t.added) e) (λ m x y. none m x)
    at false e = sym (skipped_to t.rows n (suc t.added) k (let l = leb-false k (suc t.added) e in omega arith) (λ m x y. beyond m x))

-- no number is so high
pub none_beyond : (t : TreeShape) (k : ℕ) → IsLawful t → 4294967296 ≤ k → (m : ℕ) → k ≤ m → has (is_shape m) t.rows ≡ false
none_beyond t k lawful l m h = not_there (is_shape m) t.rows (lawful.numbered m (let e = lawful.few_ever in omega arith))

-- the next node's step follows those of the nodes before it
pub unfocus_next : (f : Forest ShapeRow) (n a k : ℕ) (first steps more : List Step) → a ≤ k → ((m : ℕ) → a ≤ m → m < k → has (is_shape m) f ≡ false)
    → steps ≡ first ++ unfocusing f n (below a) → more ≡ steps ++ unfocusing f n (k ∷ []) → more ≡ first ++ unfocusing f n (below (k + 1))
unfocus_next f n a k first steps more l none e g =
    g ∙ ap (λ (s : List Step). s ++ unfocusing f n (k ∷ [])) (e ∙ ap (λ (s : List Step). first ++ s) (sym (skipped_to f n a k l none)))
    ∙ append_assoc first (unfocusing f n (below k)) (unfocusing f n (k ∷ []))
    ∙ ap (λ (s : List Step). first ++ s) (sym (unfocusing-last f n k))
    ∙ ap (λ (j : ℕ). first ++ unfocusing f n (below j)) (sym (add-one k))

-- the same of nodes that are selected
unselecting-cons : (f : Forest ShapeRow) (m : ℕ) (ms : List ℕ) → unselecting f (m ∷ ms) ≡ switched f m 23 false ++ unselecting f ms
unselecting-cons f m ms = at (node_has_state f m 23)
  where
    at : (b : Bool) → map (λ m. SetState m selected false) (cond b (m ∷ filter (λ m. node_has_state f m selected) ms) (filter (λ m. node_has_state f m selected) ms)) ≡ switch m 23 false b ++ unselecting f ms
    at true = refl
    at false = refl

pub unselect_more : (f : Forest ShapeRow) (ms : List ℕ) (i : ℕ) (steps more whole : List Step) → i < length ms
    → steps ++ unselecting f (drop i ms) ≡ whole → more ≡ steps ++ switched f (get_or ms i 0) 23 false
    → more ++ unselecting f (drop (i + 1) ms) ≡ whole
unselect_more f ms i steps more whole l e g =
    ap (λ (s : List Step). s ++ unselecting f (drop (i + 1) ms)) g
    ∙ append_assoc steps (switched f (get_or ms i 0) 23 false) (unselecting f (drop (i + 1) ms))
    ∙ ap (λ (s : List Step). steps ++ s) (sym (unselecting-cons f (get_or ms i 0) (drop (i + 1) ms)))
    ∙ ap (λ (ns : List ℕ). steps ++ unselecting f ns) (sym (drop_more ms i 0 l))
    ∙ e

pub unselecting-append : (f : Forest ShapeRow) (xs ys : List ℕ) → unselecting f (xs ++ ys) ≡ unselecting f xs ++ unselecting f ys
unselecting-append f xs ys =
    ap (map (λ m. SetState m selected false)) (filter-append (λ m. node_has_state f m selected) xs ys)
    ∙ map-append (λ m. SetState m selected false) (filter (λ m. node_has_state f m selected) xs) (filter (λ m. node_has_state f m selected) ys)

-- a number that has no room in 32 bits
pub at_least : (k : ℕ) → (k < 4294967296 → ⊥) → 4294967296 ≤ k
at_least k small = at (nat_le 4294967296 k) refl
  where
    at : (b : Bool) → nat_le 4294967296 k ≡ b → 4294967296 ≤ k
    at true e = leb-true 4294967296 k e
    at false e = absurd (small (leb-false 4294967296 k e))
