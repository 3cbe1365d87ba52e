-- Indexes and places of a tree are small enough to be told as signed numbers.
use Rattle.std.proofs.Common.{◌≡◌, ℕ, suc, ◌+◌, ◌<◌, ◌≤◌, Bool, true, false, cond, Option, Some, None, ap, arith}
use Rattle.std.specs.Prelude.{length}
use Rattle.atspi_tree_model.specs.declared.limits.TheConstants.{TEXT_LIMIT}
use Rattle.atspi_tree_model.specs.Forest.{Forest, nil, tree, count, has, width, first_of, place, children_at}
use Rattle.atspi_tree_model.specs.Row.{TextContents, Holds, HoldsIfThere, IsText, on_some}

abbrev pub everyone : {A : Type 0} → A → Bool
everyone a = true

-- no more siblings than nodes
pub width-count : {A : Type 0} (f : Forest A) → width f ≤ count everyone f
width-count nil = omega arith
width-count (tree a c r) = let i = width-count r in omega arith

pub count-children : {A : Type 0} (p : A → Bool) (f : Forest A) → count everyone (children_at p f) ≤ count everyone f
count-children p nil = omega arith
count-children {A = A} p (tree a c r) = at (p a) (has p c) (count-children p c) (count-children p r)
  where
    at : (b d : Bool) → count everyone (children_at p c) ≤ count everyone c → count everyone (children_at p r) ≤ count everyone r
        → count everyone (cond b c (cond d (children_at p c) (children_at p r))) ≤ 1 + (count everyone c + count everyone r)
    at true d ic ir = omega arith
    at false true ic ir = omega arith
    at false false ic ir = omega arith

-- a node's index is less than the number of nodes, and so of those that were passed
pub place-below : {A B : Type 0} (name : A → B) (p : A → Bool) (up : B) (k : ℕ) (f : Forest A) (u : B) (j : ℕ)
    → place name p up k f ≡ Some (u, j) → j < k + count everyone f
place-below name p up k nil u j e = cc
place-below {A = A} {B = B} name p up k (tree a c r) u j e =
    at (p a) (place name p (name a) 0 c) (place name p up (suc k) r) (place-below name p (name a) 0 c u j) (place-below name p up (suc k) r u j) e
  where
    second : Option (B × ℕ) → ℕ
    second None = 0
    second (Some s) = s.1

    index : {x y : B} {m n : ℕ} → ◌≡◌ {A = Option (B × ℕ)} (Some (x, m)) (Some (y, n)) → m ≡ n
    index e = ap second e

    at : (b : Bool) (x y : Option (B × ℕ)) → (x ≡ Some (u, j) → j < 0 + count everyone c) → (y ≡ Some (u, j) → j < suc k + count everyone r)
        → cond b (Some (up, k)) (first_of x y) ≡ Some (u, j) → j < k + (1 + (count everyone c + count everyone r))
    at true x y hx hy e = let i = index e in omega arith
    at false None y hx hy e = let i = hy e in omega arith
    at false (Some x) y hx hy e = let i = hx e in omega arith

-- a place in a text, and one behind what stands there
pub text-place : (at : ℕ) (t : Option TextContents) → HoldsIfThere IsText t → Holds (λ (s : TextContents). at ≤ length s.characters) t
    → at ≤ TEXT_LIMIT
text-place at None l h = absurd h
text-place at (Some t) l h = let s = l.short in omega arith

pub caret-place : (at : ℕ) (t : Option TextContents) → HoldsIfThere IsText (on_some (λ (s : TextContents). record s { caret = at }) t)
    → Holds (λ (s : TextContents). Unit {0}) t → at ≤ TEXT_LIMIT
caret-place at None l h = absurd h
caret-place at (Some t) l h = let s = l.short in let c = l.caret in omega arith
