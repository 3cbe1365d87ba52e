-- Nodes by their paths, and what a call of one asks.
use Rattle.std.proofs.Common.{◌≡◌, ◌≢◌, ℕ, ◌<◌, ◌^◌, Bool, true, false, List, refl, sym, ◌∙◌, subst, arith}
use Rattle.std.specs.Prelude.{nat_lt}
use Rattle.std.proofs.lemmas.Bool.{ltb-true, ltb-false}
use Rattle.atspi_tree_model.specs.Forest.{has}
use Rattle.atspi_tree_model.specs.Path.{path_of}
use Rattle.atspi_tree_model.specs.Tree.{is_shape}
use Rattle.atspi_tree_model.proofs.Found.{count-has}
use Rattle.atspi_tree_model.proofs.Path.{path_of_apart}
use Rattle.atspi_tree.specs.TreeShape.{TreeShape, IsLawful}
use Rattle.atspi_hit_answers.specs.Component.{IsNode}

-- a node of the tree has a number of 32 bits
small : (t : TreeShape) (n : ℕ) → IsLawful t → has (is_shape n) t.rows ≡ true → n < 2 ^ 32
small t n lawful there = by (nat_lt t.added n) refl
  where
    by : (b : Bool) → nat_lt t.added n ≡ b → n < 2 ^ 32
    by true e =
        let some = count-has (is_shape n) t.rows there in
        let none = lawful.numbered n (ltb-true t.added n e) in
        absurd (omega (arith, some, none))
    by false e = let le = ltb-false t.added n e in omega (arith, le, lawful.few_ever)

-- where no number has the path, no node has it
pub no_node : (t : TreeShape) (path : List ℕ) → IsLawful t → ((n : ℕ) → n < 2 ^ 32 → path_of n ≢ path)
    → (n : ℕ) → IsNode t path n → ⊥
no_node t path lawful none n x = none n (small t n lawful x.0) x.1

-- where its number is not in the tree, neither
pub not_there : (t : TreeShape) (path : List ℕ) (m : ℕ) → path_of m ≡ path → has (is_shape m) t.rows ≡ false
    → (n : ℕ) → IsNode t path n → ⊥
not_there t path m is gone n x =
    let same : n ≡ m = path_of_apart n m (x.1 ∙ sym is) in
    let there : has (is_shape m) t.rows ≡ true = subst (λ k. has (is_shape k) t.rows ≡ true) same x.0 in
    cc
