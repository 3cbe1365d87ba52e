-- Looking up each node of a forest in which numbers stand once.
use Rattle.std.proofs.Common.{◌≡◌, ℕ, suc, ◌+◌, ◌≤◌, Bool, true, false, cond, ◌==◌, Option, None, Some, refl, sym, ap, subst, ◌∙◌, arith}
use Rattle.std.proofs.lemmas.Bool.Decides.{nat_tests}
use Rattle.atspi_tree_model.specs.Forest.{Forest, nil, tree, count, has, find, first_of, children_at, EachNode}
use Rattle.atspi_tree_model.specs.Row.{ShapeRow}
use Rattle.atspi_tree_model.specs.Tree.{is_shape}
use Rattle.atspi_tree_model.proofs.Found.{count-has, not_there, find-passes}

-- looking a node up in a forest gives this row and these children
pub record Known (f : Forest ShapeRow) (row : ShapeRow) (kids : Forest ShapeRow) : Type 0 where
  pub found : find (is_shape row.node) f ≡ Some row
  pub below : children_at (is_shape row.node) f ≡ kids
  pub there : has (is_shape row.node) f ≡ true

each_weaker : (P Q : ShapeRow → Forest ShapeRow → Type 0) → ((a : ShapeRow) (c : Forest ShapeRow) → P a c → Q a c) → (f : Forest ShapeRow) → EachNode P f → EachNode Q f
each_weaker P Q h nil e = tt
each_weaker P Q h (tree a c r) e = (h a c e.0, each_weaker P Q h c e.1, each_weaker P Q h r e.2)

itself : (n : ℕ) → (n == n) ≡ true
itself n = grind (arith, nat_tests)

known_top : (a : ShapeRow) (c r : Forest ShapeRow) → Known (tree a c r) a c
known_top a c r = record {
  found = ap (λ b. cond b (Some a) (first_of (find (is_shape a.node) c) (find (is_shape a.node) r))) (itself a.node);
  below = ap (λ b. cond b c (cond (has (is_shape a.node) c) (children_at (is_shape a.node) c) (children_at (is_shape a.node) r))) (itself a.node);
  there = ap (λ b. cond b true (cond (has (is_shape a.node) c) true (has (is_shape a.node) r))) (itself a.node);
}

not_top : (b : Bool) (k l : ℕ) → 1 ≤ k + l → cond b 1 0 + (k + l) ≤ 1 → b ≡ false
not_top true k l m n = absurd (omega arith)
not_top false k l m n = refl

known_child : (a : ShapeRow) (c r : Forest ShapeRow) → ((n : ℕ) → count (is_shape n) (tree a c r) ≤ 1) → (row : ShapeRow) (kids : Forest ShapeRow) → Known c row kids → Known (tree a c r) row kids
known_child a c r once row kids k =
    let some = count-has (is_shape row.node) c k.there in
    let no : is_shape row.node a ≡ false = not_top (is_shape row.node a) (count (is_shape row.node) c) (count (is_shape row.node) r) (omega (arith, some)) (once row.node) in
    record {
      found = ap (λ b. cond b (Some a) (first_of (find (is_shape row.node) c) (find (is_shape row.node) r))) no ∙ ap (λ o. first_of o (find (is_shape row.node) r)) k.found;
      below =
          ap (λ b. cond b c (cond (has (is_shape row.node) c) (children_at (is_shape row.node) c) (children_at (is_shape row.node) r))) no
          ∙ ap (λ b. cond b (children_at (is_shape row.node) c) (children_at (is_shape row.node) r)) k.there ∙ k.below;
      there = ap (λ b. cond b true (cond (has (is_shape row.node) c) true (has (is_shape row.node) r))) no ∙ ap (λ b. cond b true (has (is_shape row.node) r)) k.there;
    }

find_absent : (p : ShapeRow → Bool) (f : Forest ShapeRow) (o : Option ShapeRow) → find p f ≡ o → count p f ≡ 0 → o ≡ None
find_absent p f None e z = refl
find_absent p f (Some x) e z = absurd (omega (arith, z, (find-passes p f x e).1))

known_rest : (a : ShapeRow) (c r : Forest ShapeRow) → ((n : ℕ) → count (is_shape n) (tree a c r) ≤ 1) → (row : ShapeRow) (kids : Forest ShapeRow) → Known r row kids → Known (tree a c r) row kids
known_rest a c r once row kids k =
    let some = count-has (is_shape row.node) r k.there in
    let few = once row.node in
    let no : is_shape row.node a ≡ false = not_top (is_shape row.node a) (count (is_shape row.node) c) (count (is_shape row.node) r) (omega (arith, some)) few in
    let none : count (is_shape row.node) c ≡ 0 = omega (arith, some, few) in
    let nowhere : has (is_shape row.node) c ≡ false = not_there (is_shape row.node) c none in
    let unfound : find (is_shape row.node) c ≡ None = find_absent (is_shape row.node) c (find (is_shape row.node) c) refl none in
    record {
      found = ap (λ b. cond b (Some a) (first_of (find (is_shape row.node) c) (find (is_shape row.node) r))) no ∙ ap (λ o. first_of o (find (is_shape row.node) r)) unfound ∙ k.found;
      below =
          ap (λ b. cond b c (cond (has (is_shape row.node) c) (children_at (is_shape row.node) c) (children_at (is_shape row.node) r))) no
          ∙ ap (λ b. cond b (children_at (is_shape row.node) c) (children_at (is_shape row.node) r)) nowhere ∙ k.below;
      there = ap (λ b. cond b true (cond (has (is_shape row.node) c) true (has (is_shape row.node) r))) no ∙ ap (λ b. cond b true (has (is_shape row.node) r)) nowhere ∙ k.there;
    }

pub each_known : (f : Forest ShapeRow) → ((n : ℕ) → count (is_shape n) f ≤ 1) → EachNode (Known f) f
each_known nil once = tt
each_known (tree a c r) once = (
  known_top a c r,
  each_weaker (Known c) (Known (tree a c r)) (known_child a c r once) c (each_known c (λ n. omega (arith, once n))),
  each_weaker (Known r) (Known (tree a c r)) (known_rest a c r once) r (each_known r (λ n. omega (arith, once n))),
)
