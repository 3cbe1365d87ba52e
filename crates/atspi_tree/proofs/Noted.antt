-- No node that names another is left out of the notes, whatever step is done; and what is read of the notes.
use Rattle.std.proofs.Common.{◌≡◌, ◌==◌, ℕ, Bool, true, false, cond, not, Option, Some, None, List, [], ◌∷◌, ◌++◌, map, refl, sym, ap, ◌∙◌, subst}
use Rattle.std.specs.Option.{option_map}
use Rattle.std.specs.Ordering.{nat_cmp}
use Rattle.std.specs.BTreeSet as set
use Rattle.std.specs.BTreeSet.{BTreeSet}
use Rattle.std.proofs.lemmas.Bool.{eqb-true}
use Rattle.atspi_tree_model.specs.declared.step.Seed.{Seed}
use Rattle.atspi_tree_model.specs.declared.step.Step.TheVariants.{Add, Move, Relate}
use Rattle.atspi_tree_model.specs.Forest.{Forest, nil, tree, take_out, pick, relabel, change}
use Rattle.atspi_tree_model.specs.Row.{ShapeRow, Each, with_targets, without_targets}
use Rattle.atspi_tree_model.specs.RowRules.{shapes, first_shape, changed_shape, forgetting_shape, shape_targets}
use Rattle.atspi_tree_model.specs.Tree.{IsTree, is_shape, after}
use Rattle.atspi_tree_model.proofs.Found.{EachLabel-weaker, find-only, none_passes}
use Rattle.atspi_tree_model.proofs.Labels.{each_both, each_put_in, each_take_out, each_pick, each_relabel, each_weaker}
use Rattle.atspi_tree_model.proofs.RowRules.{shapes_sound}
use Rattle.atspi_tree_model.proofs.Seats.{count-take_out}
use Rattle.atspi_tree.specs.Namers.{Namers, notes, SameNotes, KeepsNotes, KeepsOthers, KeepsNamed, ForgetsTarget, IsNoted, Covers}
use Rattle.atspi_tree.specs.TreeShape.{TreeShape, row_of}
use Rattle.atspi_tree.proofs.Keys.{is_other}

-- more notes cover as much
pub kept_covers : (old new : Namers) → KeepsNotes old new → (f : Forest ShapeRow) → Covers old f → Covers new f
kept_covers old new k f h =
    EachLabel-weaker (IsNoted old) (IsNoted new)
    (λ row noted. each_weaker (λ t. notes old t row.node ≡ true) (λ t. notes new t row.node ≡ true) (λ t e. k t row.node e) (shape_targets row) noted) f h

pub same_covers : (old new : Namers) → SameNotes old new → (f : Forest ShapeRow) → Covers old f → Covers new f
same_covers old new s f h = kept_covers old new (λ t n e. s t n ∙ e) f h

-- a change of one row that names no more
pub covers_change : (namers : Namers) (n : ℕ) (h : ShapeRow → ShapeRow) → ((a : ShapeRow) → IsNoted namers a → IsNoted namers (h a)) → (f : Forest ShapeRow)
    → Covers namers f → Covers namers (change (is_shape n) h f)
covers_change namers n h w f k =
    each_relabel (IsNoted namers) (λ a. cond (is_shape n a) (h a) a) f
    (EachLabel-weaker (IsNoted namers) (λ a. IsNoted namers (cond (is_shape n a) (h a) a)) (λ a noted. at a (is_shape n a) noted) f k)
  where
    at : (a : ShapeRow) (b : Bool) → IsNoted namers a → IsNoted namers (cond b (h a) a)
    at a true noted = w a noted
    at a false noted = noted

pub covers_add : (namers : Namers) (p i n : ℕ) (seed : Seed) (f : Forest ShapeRow) → Covers namers f → Covers namers (after shapes f (Add n p i seed))
covers_add namers p i n seed f k = each_put_in (IsNoted namers) (is_shape p) (Some i) (tree (first_shape n seed) nil nil) f (tt, tt, tt) k

pub covers_move : (namers : Namers) (n p i : ℕ) (f : Forest ShapeRow) → Covers namers f → Covers namers (after shapes f (Move n p i))
covers_move namers n p i f k =
    each_put_in (IsNoted namers) (is_shape p) (Some i) (pick (is_shape n) f) (take_out (is_shape n) f)
    (each_pick (IsNoted namers) (is_shape n) f k) (each_take_out (IsNoted namers) (is_shape n) f k)

pub each_append : {A : Type 0} (P : A → Type 0) (xs ys : List A) → Each P xs → Each P ys → Each P (xs ++ ys)
each_append P [] ys h k = k
each_append P (x ∷ xs) ys h k = (h.0, each_append P xs ys h.1 k)

each_pair : {A : Type 0} (P Q : A → Type 0) (xs : List A) → Each P xs → Each Q xs → Each (λ a. P a × Q a) xs
each_pair P Q [] h k = tt
each_pair P Q (x ∷ xs) h k = ((h.0, k.0), each_pair P Q xs h.1 k.1)

-- a node's relations of one kind change: the new targets are noted, and then those are forgotten that are named no more
pub covers_relate : (old mid new : Namers) (named : BTreeSet ℕ) (t : TreeShape) (n kind : ℕ) (targets : List ℕ) (rs : List (ℕ × ℕ))
    → IsTree shapes t.rows t.added → option_map (λ (row : ShapeRow). row.relations) (row_of n t) ≡ Some rs
    → KeepsNotes old mid → Each (λ x. notes mid x n ≡ true) targets
    → Each (λ x. set.contains nat_cmp named x ≡ true) (map (λ r. r.1) (with_targets kind targets rs))
    → KeepsOthers mid new n → KeepsNamed mid new named n → Covers old t.rows → Covers new (after shapes t.rows (Relate n kind targets))
covers_relate old mid new named t n kind targets rs lawful read keeps noted in_set others same k =
    found_at (row_of n t) refl read
  where
    h : ShapeRow → ShapeRow
    h a = cond (is_shape n a) (changed_shape (Relate n kind targets) a) a

    found_at : (o : Option ShapeRow) → row_of n t ≡ o → option_map (λ (row : ShapeRow). row.relations) o ≡ Some rs → Covers new (after shapes t.rows (Relate n kind targets))
    found_at None e r = absurd cc
    found_at (Some x) e r =
        each_relabel (IsNoted new) (λ a. cond (is_shape n a) (changed_shape (Relate n kind targets) a) a) t.rows
        (EachLabel-weaker (λ a. IsNoted old a × (is_shape n a ≡ true → a ≡ x)) (λ a. IsNoted new (cond (is_shape n a) (changed_shape (Relate n kind targets) a) a))
        (λ a both. at a (a.node == n) refl both.0 both.1) t.rows
        (each_both (IsNoted old) (λ a. is_shape n a ≡ true → a ≡ x) t.rows k (find-only (is_shape n) t.rows x (lawful.once n) e)))
      where
        relations : x.relations ≡ rs
        relations = let z : Some x.relations ≡ Some rs = r in cc

        at : (a : ShapeRow) (b : Bool) → (a.node == n) ≡ b → IsNoted old a → ((a.node == n) ≡ true → a ≡ x) → IsNoted new (cond b (changed_shape (Relate n kind targets) a) a)
        at a true y was only =
            let node_is : a.node ≡ n = eqb-true a.node n y in
            let named_now : List ℕ = shape_targets (changed_shape (Relate n kind targets) a) in
            let in_mid : Each (λ q. notes mid q n ≡ true) named_now =
            shapes_sound.targets_changed (λ q. notes mid q n) (Relate n kind targets) a
            (each_weaker (λ q. notes old q a.node ≡ true) (λ q. notes mid q n ≡ true) (λ q w. keeps q n (subst (λ m. notes old q m ≡ true) node_is w)) (shape_targets a) was)
            noted in
            let in_named : Each (λ q. set.contains nat_cmp named q ≡ true) named_now =
            subst (λ l. Each (λ q. set.contains nat_cmp named q ≡ true) (map (λ (r : ℕ × ℕ). r.1) (with_targets kind targets l))) (sym (ap (λ (row : ShapeRow). row.relations) (only y) ∙ relations)) in_set in
            each_weaker (λ q. (notes mid q n ≡ true) × (set.contains nat_cmp named q ≡ true)) (λ q. notes new q a.node ≡ true)
            (λ q w. subst (λ m. notes new q m ≡ true) (sym node_is) (same q w.1 ∙ w.0)) named_now
            (each_pair (λ q. notes mid q n ≡ true) (λ q. set.contains nat_cmp named q ≡ true) named_now in_mid in_named)
        at a false y was only =
            each_weaker (λ q. notes old q a.node ≡ true) (λ q. notes new q a.node ≡ true) (λ q w. others q a.node y ∙ keeps q a.node w) (shape_targets a) was

-- a node without children is taken out: it names none, and none names it
pub covers_leaf : (old mid new : Namers) (f : Forest ShapeRow) (n : ℕ) → KeepsOthers old mid n → ForgetsTarget mid new n → Covers old f
    → Covers new (relabel (forgetting_shape (λ m. m == n)) (take_out (is_shape n) f))
covers_leaf old mid new f n others forgets k =
    each_relabel (IsNoted new) (forgetting_shape (λ m. m == n)) (take_out (is_shape n) f)
    (EachLabel-weaker (λ a. IsNoted old a × (is_shape n a ≡ true → ⊥)) (λ a. IsNoted new (forgetting_shape (λ m. m == n) a))
    (λ a both. left a.node (not_n a both.1 (a.node == n) refl) a.relations both.0) (take_out (is_shape n) f)
    (each_both (IsNoted old) (λ a. is_shape n a ≡ true → ⊥) (take_out (is_shape n) f) (each_take_out (IsNoted old) (is_shape n) f k)
    (none_passes (is_shape n) (λ a. ⊥) (take_out (is_shape n) f) (count-take_out (is_shape n) f))))
  where
    not_n : (a : ShapeRow) → ((a.node == n) ≡ true → ⊥) → (b : Bool) → (a.node == n) ≡ b → (a.node == n) ≡ false
    not_n a w true e = absurd (w e)
    not_n a w false e = e

    left : (m : ℕ) → (m == n) ≡ false → (rs : List (ℕ × ℕ)) → Each (λ q. notes old q m ≡ true) (map (λ r. r.1) rs)
        → Each (λ q. notes new q m ≡ true) (map (λ r. r.1) (without_targets (λ q. q == n) rs))
    left m ne [] h = tt
    left m ne (r ∷ rs) h = at (r.1 == n) refl (left m ne rs h.1)
      where
        at : (b : Bool) → (r.1 == n) ≡ b → Each (λ q. notes new q m ≡ true) (map (λ r. r.1) (without_targets (λ q. q == n) rs))
            → Each (λ q. notes new q m ≡ true) (map (λ r. r.1) (cond (not b) (r ∷ without_targets (λ q. q == n) rs) (without_targets (λ q. q == n) rs)))
        at true e rest = rest
        at false e rest = (forgets r.1 m ∙ (rw (is_other n r.1 e) (others r.1 m ne ∙ h.0)), rest)

-- where it is not noted that a node names a target, its relations do not
pub clean_relations : (namers : Namers) (n m : ℕ) (rs : List (ℕ × ℕ)) → Each (λ q. notes namers q m ≡ true) (map (λ r. r.1) rs) → notes namers n m ≡ false
    → without_targets (λ q. q == n) rs ≡ rs
clean_relations namers n m [] h z = refl
clean_relations namers n m (r ∷ rs) h z = at (r.1 == n) refl (clean_relations namers n m rs h.1 z)
  where
    at : (b : Bool) → (r.1 == n) ≡ b → without_targets (λ q. q == n) rs ≡ rs → cond (not b) (r ∷ without_targets (λ q. q == n) rs) (without_targets (λ q. q == n) rs) ≡ r ∷ rs
    at true e k = let y : notes namers n m ≡ true = subst (λ q. notes namers q m ≡ true) (eqb-true r.1 n e) h.0 in cc
    at false e k = ap (λ l. r ∷ l) k
