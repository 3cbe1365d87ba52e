-- Taking out a node that is below another first changes nothing of taking out that other.
use Rattle.std.proofs.Common.{◌≡◌, ℕ, zero, suc, ◌+◌, ◌≤◌, ◌==◌, Bool, true, false, cond, not, List, [], ◌∷◌, refl, sym, ap, ◌∙◌, arith}
use Rattle.std.specs.Prelude.{◌||◌}
use Rattle.std.proofs.lemmas.Bool.{eqb-true, eq-eqb, ne_eqb}
use Rattle.atspi_tree_model.specs.declared.step.Step.TheVariants.{Remove}
use Rattle.atspi_tree_model.specs.Forest.{Forest, nil, tree, count, has, take_out, pick, join, relabel}
use Rattle.atspi_tree_model.specs.Row.{ShapeRow, without_targets}
use Rattle.atspi_tree_model.specs.RowRules.{shapes, forgetting_shape}
use Rattle.atspi_tree_model.specs.Tree.{is_shape, in_subtree, after}
use Rattle.atspi_tree_model.proofs.Counts.{count-parts, count-join}
use Rattle.atspi_tree_model.proofs.Found.{count-has, has-count}
use Rattle.atspi_tree_model.proofs.Relabel.{relabel-take_out, relabel-pick, has-relabel, relabel-relabel, relabel-same}

module _ (n l : ℕ) (ne : (l == n) ≡ false) where
  -- no node is both
  apart : (a : ℕ) → (a == n) ≡ true → (a == l) ≡ false
  apart a e = ne_eqb a l (λ s. let same : a ≡ n = eqb-true a n e in let y = eq-eqb l n (sym s ∙ same) in cc)

  outs : (f : Forest ShapeRow) → count (is_shape l) (pick (is_shape n) f) ≡ count (is_shape l) f → take_out (is_shape n) (take_out (is_shape l) f) ≡ take_out (is_shape n) f
  outs nil h = refl
  outs (tree a c r) h =
      at (a.node == n) refl (a.node == l) refl h (outs c) (outs r)
    where
      at : (b : Bool) → (a.node == n) ≡ b → (d : Bool) → (a.node == l) ≡ d
          → count (is_shape l) (cond b (tree a c (pick (is_shape n) r)) (join (pick (is_shape n) c) (pick (is_shape n) r))) ≡ cond d 1 0 + (count (is_shape l) c + count (is_shape l) r)
          → (count (is_shape l) (pick (is_shape n) c) ≡ count (is_shape l) c → take_out (is_shape n) (take_out (is_shape l) c) ≡ take_out (is_shape n) c)
          → (count (is_shape l) (pick (is_shape n) r) ≡ count (is_shape l) r → take_out (is_shape n) (take_out (is_shape l) r) ≡ take_out (is_shape n) r)
          → take_out (is_shape n) (cond d (take_out (is_shape l) r) (tree a (take_out (is_shape l) c) (take_out (is_shape l) r)))
          ≡ cond b (take_out (is_shape n) r) (tree a (take_out (is_shape n) c) (take_out (is_shape n) r))
      at true e true k h ic ir = let z = apart a.node e in cc
      at true e false k h ic ir = rw e (ir (let z : cond {A = ℕ} (a.node == l) 1 0 ≡ 0 = ap (λ b. cond {A = ℕ} b 1 0) k in omega arith))
      at false e true k h ic ir =
          let x = count-join (is_shape l) (pick (is_shape n) c) (pick (is_shape n) r) in
          let y = count-parts (is_shape l) (is_shape n) c in let z = count-parts (is_shape l) (is_shape n) r in absurd (omega arith)
      at false e false k h ic ir =
          let x = count-join (is_shape l) (pick (is_shape n) c) (pick (is_shape n) r) in
          let y = count-parts (is_shape l) (is_shape n) c in let z = count-parts (is_shape l) (is_shape n) r in
          rw (e, ic (omega arith), ir (omega arith)) refl

  pub counts : (m : ℕ) (f : Forest ShapeRow) → count (is_shape l) (pick (is_shape n) f) ≡ count (is_shape l) f
      → count (is_shape m) (pick (is_shape n) (take_out (is_shape l) f)) + count (is_shape m) (pick (is_shape l) f) ≡ count (is_shape m) (pick (is_shape n) f)
  counts m nil h = refl
  counts m (tree a c r) h =
      at (a.node == n) refl (a.node == l) refl h (counts m c) (counts m r)
    where
      at : (b : Bool) → (a.node == n) ≡ b → (d : Bool) → (a.node == l) ≡ d
          → count (is_shape l) (cond b (tree a c (pick (is_shape n) r)) (join (pick (is_shape n) c) (pick (is_shape n) r))) ≡ cond d 1 0 + (count (is_shape l) c + count (is_shape l) r)
          → (count (is_shape l) (pick (is_shape n) c) ≡ count (is_shape l) c
          → count (is_shape m) (pick (is_shape n) (take_out (is_shape l) c)) + count (is_shape m) (pick (is_shape l) c) ≡ count (is_shape m) (pick (is_shape n) c))
          → (count (is_shape l) (pick (is_shape n) r) ≡ count (is_shape l) r
          → count (is_shape m) (pick (is_shape n) (take_out (is_shape l) r)) + count (is_shape m) (pick (is_shape l) r) ≡ count (is_shape m) (pick (is_shape n) r))
          → count (is_shape m) (pick (is_shape n) (cond d (take_out (is_shape l) r) (tree a (take_out (is_shape l) c) (take_out (is_shape l) r))))
          + count (is_shape m) (cond d (tree a c (pick (is_shape l) r)) (join (pick (is_shape l) c) (pick (is_shape l) r)))
          ≡ count (is_shape m) (cond b (tree a c (pick (is_shape n) r)) (join (pick (is_shape n) c) (pick (is_shape n) r)))
      at true e true k h ic ir = let z = apart a.node e in cc
      at true e false k h ic ir =
          let z : cond {A = ℕ} (a.node == l) 1 0 ≡ 0 = ap (λ b. cond {A = ℕ} b 1 0) k in
          let x = ir (omega arith) in
          let y = count-parts (is_shape m) (is_shape l) c in
          let w = count-join (is_shape m) (pick (is_shape l) c) (pick (is_shape l) r) in
          rw e (omega arith)
      at false e true k h ic ir =
          let x = count-join (is_shape l) (pick (is_shape n) c) (pick (is_shape n) r) in
          let y = count-parts (is_shape l) (is_shape n) c in let z = count-parts (is_shape l) (is_shape n) r in absurd (omega arith)
      at false e false k h ic ir =
          let x = count-join (is_shape l) (pick (is_shape n) c) (pick (is_shape n) r) in
          let y = count-parts (is_shape l) (is_shape n) c in let z = count-parts (is_shape l) (is_shape n) r in
          let ec = ic (omega arith) in let er = ir (omega arith) in
          let w = count-join (is_shape m) (pick (is_shape l) c) (pick (is_shape l) r) in
          let v = count-join (is_shape m) (pick (is_shape n) c) (pick (is_shape n) r) in
          let u = count-join (is_shape m) (pick (is_shape n) (take_out (is_shape l) c)) (pick (is_shape n) (take_out (is_shape l) r)) in
          rw e (omega arith)

-- targets forgotten one lot after another
forgotten_twice : (g1 g2 g : ℕ → Bool) → ((m : ℕ) → g m ≡ (g1 m || g2 m)) → (rs : List (ℕ × ℕ)) → without_targets g2 (without_targets g1 rs) ≡ without_targets g rs
forgotten_twice g1 g2 g s [] = refl
forgotten_twice g1 g2 g s (r ∷ rs) = rw s (at (g1 r.1) (g2 r.1) refl (forgotten_twice g1 g2 g s rs))
  where
    at : (b d : Bool) → g2 r.1 ≡ d → without_targets g2 (without_targets g1 rs) ≡ without_targets g rs
        → without_targets g2 (cond (not b) (r ∷ without_targets g1 rs) (without_targets g1 rs)) ≡ cond (not (b || d)) (r ∷ without_targets g rs) (without_targets g rs)
    at true d e i = i
    at false true e i = rw e i
    at false false e i = rw e (ap (λ x. r ∷ x) i)

-- a number that is in one of two forests, by their counts
either : (m : ℕ) (x y z : Forest ShapeRow) → count (is_shape m) x + count (is_shape m) y ≡ count (is_shape m) z → has (is_shape m) z ≡ (has (is_shape m) y || has (is_shape m) x)
either m x y z e = at (has (is_shape m) y) (has (is_shape m) x) (has (is_shape m) z) refl refl refl
  where
    at : (b d g : Bool) → has (is_shape m) y ≡ b → has (is_shape m) x ≡ d → has (is_shape m) z ≡ g → g ≡ (b || d)
    at true d true hy hx hz = refl
    at true d false hy hx hz = let k = count-has (is_shape m) y hy in let l = has-count (is_shape m) z (omega arith) in cc
    at false true true hy hx hz = refl
    at false true false hy hx hz = let k = count-has (is_shape m) x hx in let l = has-count (is_shape m) z (omega arith) in cc
    at false false false hy hx hz = refl
    at false false true hy hx hz = none (count (is_shape m) x) refl (count (is_shape m) y) refl (count-has (is_shape m) z hz)
      where
        none : (i : ℕ) → count (is_shape m) x ≡ i → (j : ℕ) → count (is_shape m) y ≡ j → 1 ≤ count (is_shape m) z → true ≡ false
        none (suc i) ei j ej l = let k = has-count (is_shape m) x (omega arith) in cc
        none zero ei (suc j) ej l = let k = has-count (is_shape m) y (omega arith) in cc
        none zero ei zero ej l = absurd (omega arith)

-- a removal of a node below n, and then of n, is the removal of n
pub removed_below : (f : Forest ShapeRow) (n l : ℕ) → (l == n) ≡ false → count (is_shape l) (pick (is_shape n) f) ≡ count (is_shape l) f
    → after shapes (after shapes f (Remove l)) (Remove n) ≡ after shapes f (Remove n)
removed_below f n l ne h =
    ap (λ g. relabel second g) (relabel-take_out first (is_shape n) (is_shape n) (λ a. refl) (take_out (is_shape l) f))
    ∙ ap (λ g. relabel second (relabel first g)) (outs n l ne f h)
    ∙ relabel-relabel first second (take_out (is_shape n) f)
    ∙ relabel-same (λ a. second (first a)) (forgetting_shape (in_subtree shapes n f)) both (take_out (is_shape n) f)
  where
    first : ShapeRow → ShapeRow
    first = forgetting_shape (in_subtree shapes l f)

    second : ShapeRow → ShapeRow
    second = forgetting_shape (in_subtree shapes n (relabel (forgetting_shape (in_subtree shapes l f)) (take_out (is_shape l) f)))

    still : (m : ℕ) → in_subtree shapes n (relabel (forgetting_shape (in_subtree shapes l f)) (take_out (is_shape l) f)) m ≡ has (is_shape m) (pick (is_shape n) (take_out (is_shape l) f))
    still m =
        ap (λ g. has (is_shape m) g) (relabel-pick (forgetting_shape (in_subtree shapes l f)) (is_shape n) (is_shape n) (λ a. refl) (take_out (is_shape l) f))
        ∙ has-relabel (forgetting_shape (in_subtree shapes l f)) (is_shape m) (is_shape m) (λ a. refl) (pick (is_shape n) (take_out (is_shape l) f))

    gone : (m : ℕ) → in_subtree shapes n f m ≡ (in_subtree shapes l f m || in_subtree shapes n (relabel (forgetting_shape (in_subtree shapes l f)) (take_out (is_shape l) f)) m)
    gone m =
        either m (pick (is_shape n) (take_out (is_shape l) f)) (pick (is_shape l) f) (pick (is_shape n) f) (counts n l ne m f h)
        ∙ ap (λ b. in_subtree shapes l f m || b) (sym (still m))

    both : (a : ShapeRow) → second (first a) ≡ forgetting_shape (in_subtree shapes n f) a
    both a =
        ap (λ (rs : List (ℕ × ℕ)). record a { relations = rs })
        (forgotten_twice (in_subtree shapes l f) (in_subtree shapes n (relabel (forgetting_shape (in_subtree shapes l f)) (take_out (is_shape l) f))) (in_subtree shapes n f) gone a.relations)
