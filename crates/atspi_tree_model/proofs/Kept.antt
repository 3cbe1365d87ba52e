-- A step that applies keeps a tree a tree.
use Rattle.std.proofs.Common.{◌≡◌, ℕ, zero, suc, ◌+◌, ◌*◌, ◌<◌, ◌≤◌, ◌==◌, Bool, true, false, cond, Some, List, refl, sym, ap, ◌∙◌, subst, arith}
use Rattle.std.proofs.lemmas.Bool.{eqb-true, ne_eqb}
use Rattle.atspi_tree_model.specs.declared.step.Seed.{Seed}
use Rattle.atspi_tree_model.specs.declared.step.Step.{Step}
use Rattle.atspi_tree_model.specs.declared.step.Step.TheVariants.{Add, Remove, Move, SetName, SetDescription, SetRole, SetState, Insert, Delete, Caret, TextSelect, Relate}
use Rattle.atspi_tree_model.specs.Forest.{Forest, nil, tree, count, has, put_in, put_if, take_out, pick, relabel, change, EachLabel}
use Rattle.atspi_tree_model.specs.RowRules.{RowRules}
use Rattle.atspi_tree_model.specs.Tree.{is_number, in_subtree, after, added_after, node_of, IsRooted, HasTargets, IsTree, Adds, Removes, Moves, step_targets, Changes, Applies}
use Rattle.atspi_tree_model.proofs.Counts.{count-parts, count-put_in}
use Rattle.atspi_tree_model.proofs.Relabel.{count-relabel}
use Rattle.atspi_tree_model.proofs.Found.{count-has, has-count, find-only, EachLabel-weaker}
use Rattle.atspi_tree_model.proofs.Labels.{each_both, each_put_in, each_take_out, each_pick, each_relabel, each_weaker}
use Rattle.atspi_tree_model.proofs.RowRules.{Sound}

module _ {A : Type 0} (rules : RowRules A) (sound : Sound rules) where
  -- the parent under which something is put stands there once
  pub once_parent : (f : Forest A) (n p : ℕ) → count (is_number rules p) f ≤ 1
      → has (is_number rules p) (take_out (is_number rules n) f) ≡ true
      → count (is_number rules p) (take_out (is_number rules n) f) ≡ 1
  once_parent f n p l h =
      let a = count-parts (is_number rules p) (is_number rules n) f in
      let b = count-has (is_number rules p) (take_out (is_number rules n) f) h in
      omega arith

  -- a move changes no count
  pub count-move : (f : Forest A) (n p i : ℕ) → ((m : ℕ) → count (is_number rules m) f ≤ 1)
      → has (is_number rules p) (take_out (is_number rules n) f) ≡ true
      → (test : A → Bool) → count test (after rules f (Move n p i)) ≡ count test f
  count-move f n p i once h test =
      let a = count-put_in test (is_number rules p) (Some i) (pick (is_number rules n) f) (take_out (is_number rules n) f) in
      let b = once_parent f n p (once p) h in
      let c = count-parts test (is_number rules n) f in
      let d : count (is_number rules p) (take_out (is_number rules n) f) * count test (pick (is_number rules n) f) ≡ count test (pick (is_number rules n) f) = rw b (omega arith) in
      omega arith

  -- an addition counts its one node
  pub count-add : (f : Forest A) (n p i : ℕ) (seed : Seed) → count (is_number rules p) f ≤ 1
      → has (is_number rules p) f ≡ true
      → (test : A → Bool)
      → count test (after rules f (Add n p i seed)) ≡ count test f + (cond (test (rules.first n seed)) 1 0 + 0)
  count-add f n p i seed l h test =
      let one : count (is_number rules p) f ≡ 1 = (let a = count-has (is_number rules p) f h in omega arith) in
      let a = count-put_in test (is_number rules p) (Some i) (tree (rules.first n seed) nil nil) f in
      let d : count (is_number rules p) f * count test (tree (rules.first n seed) nil nil) ≡ count test (tree (rules.first n seed) nil nil) = rw one (omega arith) in
      a ∙ ap (λ x. count test f + x) d

  -- what is there in one tree is there in another that counts no less
  still_there : (f g : Forest A) (t : ℕ) → count (is_number rules t) f ≤ count (is_number rules t) g
      → has (is_number rules t) f ≡ true → has (is_number rules t) g ≡ true
  still_there f g t l h = let a = count-has (is_number rules t) f h in has-count (is_number rules t) g (omega arith)

  more_targets : (f g : Forest A) → ((t : ℕ) → count (is_number rules t) f ≤ count (is_number rules t) g) → (a : A)
      → HasTargets rules f (rules.targets a) → HasTargets rules g (rules.targets a)
  more_targets f g l a h = each_weaker _ _ (λ t k. still_there f g t (l t) k) (rules.targets a) h

  -- at one number: the new one, or another
  once_at : (n j k x y : ℕ) (b : Bool) → (n == j) ≡ b → n ≡ suc k → x ≤ 1 → (k < j → x ≡ 0)
      → y ≡ x + (cond b 1 0 + 0) → y ≤ 1
  once_at n j k x y true e next l z c = let same : n ≡ j = eqb-true n j e in let zero : x ≡ 0 = z (omega arith) in omega arith
  once_at n j k x y false e next l z c = omega arith

  pub added_is_tree : (f : Forest A) (k n p i : ℕ) (seed : Seed) → IsTree rules f k → Adds rules f k n p i seed
      → IsTree rules (after rules f (Add n p i seed)) (suc k)
  added_is_tree f k n p i seed t m = record {
    rooted = top f t.rooted;
    once = λ j. once_at n j k (count (is_number rules j) f) (count (is_number rules j) (after rules f (Add n p i seed))) (n == j) refl m.next (t.once j) (t.numbered j) (at j);
    numbered = λ j l. (let e = at j in let z = t.numbered j (let y = m.next in omega arith) in
        let w : cond {A = ℕ} (n == j) 1 0 ≡ 0 = ap (λ b. cond {A = ℕ} b 1 0) (ne_eqb n j (λ x. let y = m.next in omega arith)) in omega arith);
    few = let e = c (λ row. true) in let y = m.room in omega arith;
    few_ever = let y = m.room_ever in omega arith;
    lawful = each_put_in rules.IsLawful (is_number rules p) (Some i) (tree (rules.first n seed) nil nil) f (m.lawful, tt, tt) t.lawful;
    targets = each_put_in (λ row. HasTargets rules (after rules f (Add n p i seed)) (rules.targets row)) (is_number rules p) (Some i) (tree (rules.first n seed) nil nil) f
        (subst (HasTargets rules (after rules f (Add n p i seed))) (sym (sound.targets_first n seed)) tt, tt, tt)
        (EachLabel-weaker _ _ (more_targets f (after rules f (Add n p i seed)) (λ j. let e = c (is_number rules j) in omega arith)) f t.targets);
  }
    where
      c : (test : A → Bool)
          → count test (after rules f (Add n p i seed)) ≡ count test f + (cond (test (rules.first n seed)) 1 0 + 0)
      c = count-add f n p i seed (t.once p) m.parent

      at : (j : ℕ)
          → count (is_number rules j) (after rules f (Add n p i seed)) ≡ count (is_number rules j) f + (cond (n == j) 1 0 + 0)
      at j = c (is_number rules j) ∙ ap (λ x. count (is_number rules j) f + (cond {A = ℕ} (x == j) 1 0 + 0)) (sound.number_first n seed)

      top : (g : Forest A) → IsRooted rules g
          → IsRooted rules (put_in (is_number rules p) (Some i) (tree (rules.first n seed) nil nil) g)
      top g (row, children, z, e) =
          (row, put_if (is_number rules p row) (Some i) (tree (rules.first n seed) nil nil) (put_in (is_number rules p) (Some i) (tree (rules.first n seed) nil nil) children), z, rw e refl)

  -- where the root is not taken out, it stays at the top
  root_stays : (n : ℕ) (row : A) → (n ≡ 0 → ⊥) → rules.number row ≡ 0 → is_number rules n row ≡ false
  root_stays n row ne z = ne_eqb (rules.number row) n (λ k. ne (sym k ∙ z))

  pub moved_is_tree : (f : Forest A) (k n p i : ℕ) → IsTree rules f k → Moves rules f n p i
      → IsTree rules (after rules f (Move n p i)) k
  moved_is_tree f k n p i t m = record {
    rooted = top f t.rooted;
    once = λ j. let e = c (is_number rules j) in let l = t.once j in omega arith;
    numbered = λ j l. let e = c (is_number rules j) in let z = t.numbered j l in omega arith;
    few = let e = c (λ row. true) in let z = t.few in omega arith;
    few_ever = t.few_ever;
    lawful = everywhere rules.IsLawful t.lawful;
    targets = everywhere (λ row. HasTargets rules (after rules f (Move n p i)) (rules.targets row))
        (EachLabel-weaker _ _ (more_targets f (after rules f (Move n p i)) (λ j. let e = c (is_number rules j) in omega arith)) f t.targets);
  }
    where
      c : (test : A → Bool) → count test (after rules f (Move n p i)) ≡ count test f
      c = count-move f n p i t.once m.no_cycle

      everywhere : (P : A → Type 0) → EachLabel P f → EachLabel P (after rules f (Move n p i))
      everywhere P h =
          each_put_in P (is_number rules p) (Some i) (pick (is_number rules n) f) (take_out (is_number rules n) f)
          (each_pick P (is_number rules n) f h) (each_take_out P (is_number rules n) f h)

      top : (g : Forest A) → IsRooted rules g → IsRooted rules (after rules g (Move n p i))
      top g (row, children, z, e) = (
        row,
        put_if (is_number rules p row) (Some i) (pick (is_number rules n) g) (put_in (is_number rules p) (Some i) (pick (is_number rules n) g) (take_out (is_number rules n) children)),
        z,
        (let left : take_out (is_number rules n) g ≡ tree row (take_out (is_number rules n) children) nil = rw e (rw (root_stays n row m.not_root z) refl) in
            rw left refl),
      )

  pub removed_is_tree : (f : Forest A) (k n : ℕ) → IsTree rules f k → Removes rules f n
      → IsTree rules (after rules f (Remove n)) k
  removed_is_tree f k n t m = record {
    rooted = top f t.rooted;
    once = λ j. let e = at j in let p = count-parts (is_number rules j) (is_number rules n) f in let l = t.once j in omega arith;
    numbered = λ j l. let e = at j in let p = count-parts (is_number rules j) (is_number rules n) f in let z = t.numbered j l in omega arith;
    few = let e = count-relabel (rules.forgetting gone) (λ row. true) (λ row. true) (λ row. refl) left in let p = count-parts (λ row. true) (is_number rules n) f in let z = t.few in omega arith;
    few_ever = t.few_ever;
    lawful = each_relabel rules.IsLawful (rules.forgetting gone) left
        (EachLabel-weaker _ _ (sound.lawful_forgetting gone) left (each_take_out rules.IsLawful (is_number rules n) f t.lawful));
    targets = each_relabel (λ row. HasTargets rules (after rules f (Remove n)) (rules.targets row)) (rules.forgetting gone) left
        (EachLabel-weaker _ _ targets_left left (each_take_out (λ row. HasTargets rules f (rules.targets row)) (is_number rules n) f t.targets));
  }
    where
      gone : ℕ → Bool
      gone = in_subtree rules n f

      left : Forest A
      left = take_out (is_number rules n) f

      at : (j : ℕ)
          → count (is_number rules j) (after rules f (Remove n)) ≡ count (is_number rules j) (take_out (is_number rules n) f)
      at j = count-relabel (rules.forgetting (in_subtree rules n f)) (is_number rules j) (is_number rules j) (λ row. ap (λ x. x == j) (sound.number_forgetting (in_subtree rules n f) row)) (take_out (is_number rules n) f)

      target_left : (t : ℕ) → has (is_number rules t) f ≡ true → in_subtree rules n f t ≡ false
          → has (is_number rules t) (after rules f (Remove n)) ≡ true
      target_left t h g = has-count (is_number rules t) (after rules f (Remove n)) (counted (has (is_number rules t) (pick (is_number rules n) f)) refl)
        where
          counted : (b : Bool) → has (is_number rules t) (pick (is_number rules n) f) ≡ b
              → 1 ≤ count (is_number rules t) (after rules f (Remove n))
          counted true e = cc
          counted false e =
              let none : count (is_number rules t) (pick (is_number rules n) f) ≡ 0 = none_at (count (is_number rules t) (pick (is_number rules n) f)) refl in
              let a = at t in
              let b = count-parts (is_number rules t) (is_number rules n) f in
              let c = count-has (is_number rules t) f h in
              omega arith
            where
              none_at : (k : ℕ) → count (is_number rules t) (pick (is_number rules n) f) ≡ k
                  → count (is_number rules t) (pick (is_number rules n) f) ≡ 0
              none_at zero z = z
              none_at (suc k) z = let y = has-count (is_number rules t) (pick (is_number rules n) f) (omega arith) in cc

      targets_left : (row : A) → HasTargets rules f (rules.targets row)
          → HasTargets rules (after rules f (Remove n)) (rules.targets (rules.forgetting gone row))
      targets_left row h =
          each_weaker (λ t. (has (is_number rules t) f ≡ true) × (in_subtree rules n f t ≡ false)) (λ t. has (is_number rules t) (after rules f (Remove n)) ≡ true)
          (λ t k. target_left t k.0 k.1) (rules.targets (rules.forgetting gone row))
          (sound.targets_forgetting (λ t. has (is_number rules t) f) gone row h)

      top : (g : Forest A) → IsRooted rules g
          → IsRooted rules (relabel (rules.forgetting gone) (take_out (is_number rules n) g))
      top g (row, children, z, e) = (
        rules.forgetting gone row,
        relabel (rules.forgetting gone) (take_out (is_number rules n) children),
        sound.number_forgetting gone row ∙ z,
        (let out : take_out (is_number rules n) g ≡ tree row (take_out (is_number rules n) children) nil = rw e (rw (root_stays n row m.not_root z) refl) in
            rw out refl),
      )

  -- a change of one row
  pub changed_is_tree : (f : Forest A) (k : ℕ) (step : Step) → IsTree rules f k → Changes rules f step
      → IsTree rules (change (is_number rules (node_of step)) (rules.changed step) f) k
  changed_is_tree f k step t m = record {
    rooted = top f t.rooted;
    once = λ j. let e = c j in let l = t.once j in omega arith;
    numbered = λ j l. let e = c j in let z = t.numbered j l in omega arith;
    few = let e = count-relabel h (λ row. true) (λ row. true) (λ row. refl) f in let z = t.few in omega arith;
    few_ever = t.few_ever;
    lawful = each_relabel rules.IsLawful h f (EachLabel-weaker _ _ (λ row k. lawful_at row (is_number rules (node_of step) row) k.0 k.1) f (each_both _ _ f only t.lawful));
    targets = each_relabel (λ row. HasTargets rules (change (is_number rules (node_of step)) (rules.changed step) f) (rules.targets row)) h f
        (EachLabel-weaker _ _ (λ row k. targets_at row (is_number rules (node_of step) row) k) f t.targets);
  }
    where
      h : A → A
      h = λ row. cond (is_number rules (node_of step) row) (rules.changed step row) row

      number_at : (row : A) (b : Bool) → rules.number (cond b (rules.changed step row) row) ≡ rules.number row
      number_at row true = sound.number_changed step row
      number_at row false = refl

      c : (j : ℕ)
          → count (is_number rules j) (change (is_number rules (node_of step)) (rules.changed step) f) ≡ count (is_number rules j) f
      c j = count-relabel (λ row. cond (is_number rules (node_of step) row) (rules.changed step row) row) (is_number rules j) (is_number rules j) (λ row. ap (λ x. x == j) (number_at row (is_number rules (node_of step) row))) f

      only : EachLabel (λ row. is_number rules (node_of step) row ≡ true → row ≡ m.row) f
      only = find-only (is_number rules (node_of step)) f m.row (t.once (node_of step)) m.there

      lawful_at : (row : A) (b : Bool) → (b ≡ true → row ≡ m.row) → rules.IsLawful row
          → rules.IsLawful (cond b (rules.changed step row) row)
      lawful_at row true o l = subst (λ x. rules.IsLawful (rules.changed step x)) (sym (o refl)) m.lawful
      lawful_at row false o l = l

      there : (xs : List ℕ) → HasTargets rules f xs
          → HasTargets rules (change (is_number rules (node_of step)) (rules.changed step) f) xs
      there xs e = each_weaker _ _ (λ t w. still_there f (change (is_number rules (node_of step)) (rules.changed step) f) t (let y = c t in omega arith) w) xs e

      targets_at : (row : A) (b : Bool) → HasTargets rules f (rules.targets row)
          → HasTargets rules (change (is_number rules (node_of step)) (rules.changed step) f) (rules.targets (cond b (rules.changed step row) row))
      targets_at row true e = sound.targets_changed (λ t. has (is_number rules t) (change (is_number rules (node_of step)) (rules.changed step) f)) step row (there (rules.targets row) e) (there (step_targets step) m.targets)
      targets_at row false e = there (rules.targets row) e

      top : (g : Forest A) → IsRooted rules g
          → IsRooted rules (change (is_number rules (node_of step)) (rules.changed step) g)
      top g (row, children, z, e) = (h row, change (is_number rules (node_of step)) (rules.changed step) children, number_at row (is_number rules (node_of step) row) ∙ z, rw e refl)

  pub after_is_tree : (f : Forest A) (k : ℕ) (step : Step) → IsTree rules f k → Applies rules f k step
      → IsTree rules (after rules f step) (added_after k step)
  after_is_tree f k (Add n p i seed) t a = added_is_tree f k n p i seed t a
  after_is_tree f k (Remove n) t a = removed_is_tree f k n t a
  after_is_tree f k (Move n p i) t a = moved_is_tree f k n p i t a
  after_is_tree f k (SetName n x) t a = changed_is_tree f k (SetName n x) t a
  after_is_tree f k (SetDescription n x) t a = changed_is_tree f k (SetDescription n x) t a
  after_is_tree f k (SetRole n x) t a = changed_is_tree f k (SetRole n x) t a
  after_is_tree f k (SetState n s on) t a = changed_is_tree f k (SetState n s on) t a
  after_is_tree f k (Insert n at x) t a = changed_is_tree f k (Insert n at x) t a
  after_is_tree f k (Delete n at x) t a = changed_is_tree f k (Delete n at x) t a
  after_is_tree f k (Caret n at) t a = changed_is_tree f k (Caret n at) t a
  after_is_tree f k (TextSelect n marks) t a = changed_is_tree f k (TextSelect n marks) t a
  after_is_tree f k (Relate n kind ts) t a = changed_is_tree f k (Relate n kind ts) t a
