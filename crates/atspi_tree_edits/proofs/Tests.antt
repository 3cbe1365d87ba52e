-- What tests of a forest and of texts answer.
use Rattle.std.proofs.Common.{◌≡◌, ℕ, Bool, true, false, List, refl, sym}
use Rattle.std.specs.Prelude.{◌&&◌, ◌↔◌, IsTrue, bytes_eq}
use Rattle.std.proofs.lemmas.Slice.Eq.{bytes_eq-Decides}
use Rattle.atspi_tree_model.specs.Forest.{Forest, has}
use Rattle.atspi_tree_model.proofs.Lookup.{has-weaker}

-- where none passes, none passes this and another test
pub none_too : {A : Type 0} (p q : A → Bool) (f : Forest A) → has p f ≡ false → has (λ a. p a && q a) f ≡ false
none_too p q f h = at (has (λ a. p a && q a) f) refl
  where
    at : (b : Bool) → has (λ a. p a && q a) f ≡ b → has (λ a. p a && q a) f ≡ false
    at true e = let k = has-weaker p q f e in cc
    at false e = e

-- a test that answers whether two texts are equal
pub same_test : (b : Bool) (x y : List ℕ) → (IsTrue b ↔ (x ≡ y)) → b ≡ bytes_eq x y
same_test true x y e = sym ((bytes_eq-Decides x y).1 (e.0 refl))
same_test false x y e = at (bytes_eq x y) refl
  where
    at : (c : Bool) → bytes_eq x y ≡ c → false ≡ c
    at true k = e.1 ((bytes_eq-Decides x y).0 k)
    at false k = refl
