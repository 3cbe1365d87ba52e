-- One element of a well-known bus name, as a test and as a fact.
use Rattle.std.proofs.Common.{◌≡◌, ℕ, List, [], ◌∷◌, Bool, true, false, refl}
use Rattle.std.specs.Prelude.{IsTrue}
use Rattle.std.specs.List.{list_all, AllByRecursion}
use Rattle.std.proofs.lemmas.Bool.{and_parts, and_from, both_ways}
use Rattle.atspi_base.specs.valid_names.Elements.{may_begin, may_follow, is_element}
use Rattle.atspi_base.specs.valid_names.Names.{IsElement}
use Rattle.atspi_base.specs.declared.valid_names.elements.Form.TheVariants.{WellKnown}

each_from : (p : ℕ → Bool) (xs : List ℕ) → list_all p xs ≡ true → AllByRecursion (λ x. IsTrue (p x)) xs
each_from p [] e = tt
each_from p (x ∷ xs) e = let both = and_parts (p x) (list_all p xs) e in (both.0, each_from p xs both.1)

each_to : (p : ℕ → Bool) (xs : List ℕ) → AllByRecursion (λ x. IsTrue (p x)) xs → list_all p xs ≡ true
each_to p [] h = refl
each_to p (x ∷ xs) h = and_from (p x) (list_all p xs) h.0 (each_to p xs h.1)

pub element_from : (bytes : List ℕ) → is_element WellKnown bytes ≡ true → IsElement WellKnown bytes
element_from [] e = absurd cc
element_from (b ∷ bytes) e = let both = and_parts (may_begin WellKnown b) (list_all (may_follow WellKnown) bytes) e in (both.0, each_from (may_follow WellKnown) bytes both.1)

pub no_element : (bytes : List ℕ) → is_element WellKnown bytes ≡ false → IsElement WellKnown bytes → ⊥
no_element [] e h = h
no_element (b ∷ bytes) e h = both_ways _ e (and_from (may_begin WellKnown b) (list_all (may_follow WellKnown) bytes) h.0 (each_to (may_follow WellKnown) bytes h.1))
