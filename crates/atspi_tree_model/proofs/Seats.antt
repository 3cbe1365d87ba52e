-- Where a node stands that was put somewhere.
use Rattle.std.proofs.Common.{◌≡◌, ℕ, zero, suc, ◌+◌, ◌≤◌, Bool, true, false, cond, Option, Some, None, refl, sym, ap, ◌∙◌, subst, arith}
use Rattle.std.proofs.lemmas.Bool.{eqb-true, eq-eqb}
use Rattle.atspi_tree_model.specs.declared.step.Seed.{Seed}
use Rattle.atspi_tree_model.specs.declared.step.Step.TheVariants.{Add, Move}
use Rattle.atspi_tree_model.specs.Forest.{Forest, nil, tree, count, has, width, join, put_at, put_if, put_in, take_out, pick, first_of, place, children_at}
use Rattle.atspi_tree_model.specs.RowRules.{RowRules}
use Rattle.atspi_tree_model.specs.Tree.{is_number, after, seat_of, IsTree, Adds, Moves}
use Rattle.atspi_tree_model.proofs.Counts.{count-parts}
use Rattle.atspi_tree_model.proofs.Found.{count-has, has-count, not_there}
use Rattle.atspi_tree_model.proofs.RowRules.{Sound}

pub join-nil : {A : Type 0} (f : Forest A) → join f nil ≡ f
join-nil nil = refl
join-nil (tree a c r) = ap (tree a c) (join-nil r)

-- nothing is put where nothing passes
pub put_in-none : {A : Type 0} (q : A → Bool) (i : Option ℕ) (g f : Forest A) → count q f ≡ 0 → put_in q i g f ≡ f
put_in-none q i g nil h = refl
put_in-none q i g (tree a c r) h = at (q a) h (put_in-none q i g c (omega arith)) (put_in-none q i g r (omega arith))
  where
    at : (b : Bool) → cond b 1 0 + (count q c + count q r) ≡ 0 → put_in q i g c ≡ c → put_in q i g r ≡ r
        → tree a (put_if b i g (put_in q i g c)) (put_in q i g r) ≡ tree a c r
    at true h hc hr = absurd (omega arith)
    at false h hc hr = rw (hc, hr) refl

-- what is taken out is gone
pub count-take_out : {A : Type 0} (p : A → Bool) (f : Forest A) → count p (take_out p f) ≡ 0
count-take_out p nil = refl
count-take_out p (tree a c r) = at (p a) refl (count-take_out p c) (count-take_out p r)
  where
    at : (b : Bool) → p a ≡ b → count p (take_out p c) ≡ 0 → count p (take_out p r) ≡ 0
        → count p (cond b (take_out p r) (tree a (take_out p c) (take_out p r))) ≡ 0
    at true e hc hr = hr
    at false e hc hr = let k : cond {A = ℕ} (p a) 1 0 ≡ 0 = ap (λ b. cond {A = ℕ} b 1 0) e in omega arith

pub pick-none : {A : Type 0} (p : A → Bool) (f : Forest A) → count p f ≡ 0 → pick p f ≡ nil
pick-none p nil h = refl
pick-none p (tree a c r) h = at (p a) h (pick-none p c (omega arith)) (pick-none p r (omega arith))
  where
    at : (b : Bool) → cond b 1 0 + (count p c + count p r) ≡ 0 → pick p c ≡ nil → pick p r ≡ nil
        → cond b (tree a c (pick p r)) (join (pick p c) (pick p r)) ≡ nil
    at true h hc hr = absurd (omega arith)
    at false h hc hr = rw (hc, hr) refl

-- the one that passes, with what is below it
abbrev pub IsOneTree : {A : Type 0} → (A → Bool) → Forest A → Type 0
IsOneTree {A} p f = (row : A) × (children : Forest A) × (p row ≡ true) × (f ≡ tree row children nil)

pub pick-one : {A : Type 0} (p : A → Bool) (f : Forest A) → count p f ≡ 1 → IsOneTree p (pick p f)
pick-one p nil h = absurd (omega arith)
pick-one p (tree a c r) h = at (p a) refl (count p c) refl h (pick-one p c) (pick-one p r)
  where
    at : (b : Bool) → p a ≡ b → (m : ℕ) → count p c ≡ m → cond b 1 0 + (count p c + count p r) ≡ 1
        → (count p c ≡ 1 → IsOneTree p (pick p c)) → (count p r ≡ 1 → IsOneTree p (pick p r))
        → IsOneTree p (cond b (tree a c (pick p r)) (join (pick p c) (pick p r)))
    at true e m k h ic ir = (a, c, e, ap (tree a c) (pick-none p r (omega arith)))
    at false e zero k h ic ir =
        let o = ir (omega arith) in
        (o.0, o.1, o.2, rw (pick-none p c k) (o.3))
    at false e (suc m) k h ic ir =
        let o = ic (omega arith) in
        (o.0, o.1, o.2, rw (pick-none p r (omega arith)) (join-nil (pick p c) ∙ o.3))

-- the children of a node that is left are those that are left
pub children-take_out : {A : Type 0} (p q : A → Bool) (f : Forest A) → count p f ≤ 1 → has p (take_out q f) ≡ true
    → children_at p (take_out q f) ≡ take_out q (children_at p f)
children-take_out p q nil l h = refl
children-take_out {A = A} p q (tree a c r) l h =
    at (λ e. children-take_out p q c (omega arith) e) (λ e. children-take_out p q r (omega arith) e) (q a) h
  where
    in_rest : 1 ≤ count p r → (p a ≡ false) × (has p c ≡ false)
    in_rest k = (first (p a) refl, not_there p c (let z = l in omega arith))
      where
        first : (b : Bool) → p a ≡ b → p a ≡ false
        first true e = let w : cond {A = ℕ} (p a) 1 0 ≡ 1 = ap (λ b. cond {A = ℕ} b 1 0) e in absurd (omega arith)
        first false e = e

    counted : (s : Forest A) → has p (take_out q s) ≡ true → 1 ≤ count p s
    counted s k = let a = count-has p (take_out q s) k in let b = count-parts p q s in omega arith

    below : (has p (take_out q c) ≡ true → children_at p (take_out q c) ≡ take_out q (children_at p c))
        → (has p (take_out q r) ≡ true → children_at p (take_out q r) ≡ take_out q (children_at p r))
        → (d e : Bool) → p a ≡ d → has p (take_out q c) ≡ e → cond d true (cond e true (has p (take_out q r))) ≡ true
        → cond d (take_out q c) (cond e (children_at p (take_out q c)) (children_at p (take_out q r))) ≡ take_out q (cond d c (cond (has p c) (children_at p c) (children_at p r)))
    below ic ir true e pd pe k = refl
    below ic ir false true pd pe k = rw (has-count p c (counted c pe)) (ic pe)
    below ic ir false false pd pe k = rw ((in_rest (counted r k)).1) (ir k)

    at : (has p (take_out q c) ≡ true → children_at p (take_out q c) ≡ take_out q (children_at p c))
        → (has p (take_out q r) ≡ true → children_at p (take_out q r) ≡ take_out q (children_at p r))
        → (b : Bool) → has p (cond b (take_out q r) (tree a (take_out q c) (take_out q r))) ≡ true
        → children_at p (cond b (take_out q r) (tree a (take_out q c) (take_out q r))) ≡ take_out q (cond (p a) c (cond (has p c) (children_at p c) (children_at p r)))
    at ic ir true k = let i = in_rest (counted r k) in rw (i.0, i.1) (ir k)
    at ic ir false k = below ic ir (p a) (has p (take_out q c)) refl refl k

pub place-none : {A B : Type 0} (name : A → B) (p : A → Bool) (up : B) (i : ℕ) (s : Forest A) → count p s ≡ 0
    → place name p up i s ≡ None
place-none name p up i nil z = refl
place-none {B = B} name p up i (tree a c r) z = at (p a) z (place-none name p (name a) 0 c (omega arith)) (place-none name p up (suc i) r (omega arith))
  where
    at : (b : Bool) → cond b 1 0 + (count p c + count p r) ≡ 0 → {x y : Option (B × ℕ)} → x ≡ None → y ≡ None
        → cond b (Some (up, i)) (first_of x y) ≡ None
    at true z ex ey = absurd (omega arith)
    at false z ex ey = rw (ex, ey) refl

module _ {A B : Type 0} (name : A → B) (p : A → Bool) (row : A) (below : Forest A) (here : p row ≡ true) where
  -- among the siblings
  place-put_at : (up : B) (i k : ℕ) (f : Forest A) → count p f ≡ 0 → i ≤ width f
      → place name p up k (put_at i (tree row below nil) f) ≡ Some (up, k + i)
  place-put_at up zero k nil z l = rw here (ap (λ n. Some (up, n)) (omega arith))
  place-put_at up (suc i) k nil z l = absurd (omega arith)
  place-put_at up zero k (tree a c r) z l = rw here (ap (λ n. Some (up, n)) (omega arith))
  place-put_at up (suc i) k (tree a c r) z l =
      at (p a) z (place-none name p (name a) 0 c (omega arith)) (place-put_at up i (suc k) r (omega arith) (omega arith))
    where
      at : (b : Bool) → cond b 1 0 + (count p c + count p r) ≡ 0 → {x y : Option (B × ℕ)} → x ≡ None
          → y ≡ Some (up, suc k + i) → cond b (Some (up, k)) (first_of x y) ≡ Some (up, k + suc i)
      at true z ex ey = absurd (omega arith)
      at false z ex ey = rw (ex, ey) (ap (λ n. Some (up, n)) (omega arith))

  -- and in a forest
  pub place-put_in : (q : A → Bool) (u : B) → ((a : A) → q a ≡ true → name a ≡ u)
      → (up : B) (i k : ℕ) (f : Forest A) → count p f ≡ 0 → count q f ≡ 1
      → i ≤ width (children_at q f) → place name p up k (put_in q (Some i) (tree row below nil) f) ≡ Some (u, i)
  place-put_in q u w up i k nil z o l = absurd (omega arith)
  place-put_in q u w up i k (tree a c r) z o l =
      at (λ o m. place-put_in q u w (name a) i 0 c (omega arith) o m) (λ o m. place-put_in q u w up i (suc k) r (omega arith) o m) (p a) (q a) (has q c) z refl refl o l
    where
      in_first : (b : Bool) → cond b 1 0 + (count p c + count p r) ≡ 0 → {x : Option (B × ℕ)} → x ≡ Some (u, i)
          → (y : Option (B × ℕ)) → cond b (Some (up, k)) (first_of x y) ≡ Some (u, i)
      in_first true z e y = absurd (omega arith)
      in_first false z e y = rw e refl

      in_second : (b : Bool) → cond b 1 0 + (count p c + count p r) ≡ 0 → {x y : Option (B × ℕ)} → x ≡ None
          → y ≡ Some (u, i) → cond b (Some (up, k)) (first_of x y) ≡ Some (u, i)
      in_second true z ex ey = absurd (omega arith)
      in_second false z ex ey = rw (ex, ey) refl

      at : (count q c ≡ 1 → i ≤ width (children_at q c) → place name p (name a) 0 (put_in q (Some i) (tree row below nil) c) ≡ Some (u, i))
          → (count q r ≡ 1 → i ≤ width (children_at q r) → place name p up (suc k) (put_in q (Some i) (tree row below nil) r) ≡ Some (u, i))
          → (b d e : Bool) → cond b 1 0 + (count p c + count p r) ≡ 0 → q a ≡ d → has q c ≡ e
          → cond d 1 0 + (count q c + count q r) ≡ 1
          → i ≤ width (cond d c (cond e (children_at q c) (children_at q r)))
          → cond b (Some (up, k)) (first_of (place name p (name a) 0 (put_if d (Some i) (tree row below nil) (put_in q (Some i) (tree row below nil) c)))
          (place name p up (suc k) (put_in q (Some i) (tree row below nil) r))) ≡ Some (u, i)
      at ic ir b true e z qa qc o l =
          let e : place name p (name a) 0 (put_at i (tree row below nil) (put_in q (Some i) (tree row below nil) c)) ≡ Some (u, i) =
          rw (put_in-none q (Some i) (tree row below nil) c (omega arith)) (rw (place-put_at (name a) i 0 c (omega arith) l) (rw (w a qa) (ap (λ n. Some (u, n)) (omega arith)))) in
          in_first b z e (place name p up (suc k) (put_in q (Some i) (tree row below nil) r))
      at ic ir b false true z qa qc o l =
          let k' = count-has q c qc in
          in_first b z (ic (omega arith) l) (place name p up (suc k) (put_in q (Some i) (tree row below nil) r))
      at ic ir b false false z qa qc o l =
          let none : count q c ≡ 0 = none_at (count q c) refl in
          let e : place name p (name a) 0 (put_in q (Some i) (tree row below nil) c) ≡ None = rw (put_in-none q (Some i) (tree row below nil) c none) (place-none name p (name a) 0 c (omega arith)) in
          in_second b z e (ir (omega arith) l)
        where
          none_at : (m : ℕ) → count q c ≡ m → count q c ≡ 0
          none_at zero e = e
          none_at (suc m) e = let y = has-count q c (omega arith) in cc

module _ {A : Type 0} (rules : RowRules A) (sound : Sound rules) where
  named : (p : ℕ) (a : A) → is_number rules p a ≡ true → Some (rules.number a) ≡ Some p
  named p a e = ap Some (eqb-true (rules.number a) p e)

  -- a node that was added stands where the step says
  pub seat_of_added : (f : Forest A) (k n p i : ℕ) (seed : Seed) → IsTree rules f k → Adds rules f k n p i seed
      → seat_of rules n (after rules f (Add n p i seed)) ≡ Some (Some p, i)
  seat_of_added f k n p i seed t m =
      place-put_in (λ row. Some (rules.number row)) (is_number rules n) (rules.first n seed) nil (eq-eqb (rules.number (rules.first n seed)) n (sound.number_first n seed))
      (is_number rules p) (Some p) (named p) None i 0 f (t.numbered n (let y = m.next in omega arith))
      (let a = count-has (is_number rules p) f m.parent in let b = t.once p in omega arith) m.index

  -- and one that was moved
  pub seat_of_moved : (f : Forest A) (k n p i : ℕ) → IsTree rules f k → Moves rules f n p i
      → seat_of rules n (after rules f (Move n p i)) ≡ Some (Some p, i)
  seat_of_moved f k n p i t m = at (pick-one (is_number rules n) f (let a = count-has (is_number rules n) f m.there in let b = t.once n in omega arith))
    where
      at : IsOneTree (is_number rules n) (pick (is_number rules n) f)
          → seat_of rules n (after rules f (Move n p i)) ≡ Some (Some p, i)
      at (row, below, here, e) =
          rw e (place-put_in (λ row. Some (rules.number row)) (is_number rules n) row below here (is_number rules p) (Some p) (named p) None i 0 (take_out (is_number rules n) f)
          (count-take_out (is_number rules n) f)
          (let a = count-has (is_number rules p) (take_out (is_number rules n) f) m.no_cycle in let b = count-parts (is_number rules p) (is_number rules n) f in let c = t.once p in omega arith)
          (subst (λ x. i ≤ width x) (sym (children-take_out (is_number rules p) (is_number rules n) f (t.once p) m.no_cycle)) m.index))
