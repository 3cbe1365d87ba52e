-- Paths stand between quotes as they are.
use Rattle.std.proofs.Common.{◌≡◌, ℕ, Bool, true, false, not, IsTrue, ◌&&◌, ◌||◌, ◌==◌, List, [], ◌∷◌, ◌++◌, length, refl, sym, ap, ◌∙◌, arith, ◌⊎◌, inl, inr}
use Rattle.std.proofs.lemmas.Bool.Decides.{nat_tests}
use Rattle.std.proofs.lemmas.Bool.{or_cases, eqb-true}
use Rattle.std.specs.List.{flat_map}
use Rattle.atspi_base.specs.Quoted.{escaped}
use Rattle.atspi_base.specs.valid_names.Names.{IsPath, is_path}
use Rattle.atspi_base.specs.valid_names.Elements.{may_come, are_elements}
use Rattle.atspi_base.specs.declared.valid_names.elements.Form.TheVariants.{Path}
use Rattle.atspi_base.proofs.OfValidNames.ElementLemmas.{goes_on, goes_on-are_elements}
use Rattle.atspi_base.proofs.OfValidNames.NameLemmas.{is_path-from_IsPath}

-- a byte that may stand in a path stands between quotes as it is
comes_plain : (inside : Bool) (b : ℕ) → may_come Path 47 inside b ≡ true → escaped b ≡ b ∷ []
comes_plain true b e = grind (arith, nat_tests, e)
comes_plain false b e = grind (arith, nat_tests, e)

and_left : (x y : Bool) → (x && y) ≡ true → x ≡ true
and_left true y e = refl
and_left false y e = e

and_right : (x y : Bool) → (x && y) ≡ true → y ≡ true
and_right true y e = e
and_right false y e = absurd cc

walk_stands : (inside : Bool) (bytes : List ℕ) → goes_on Path 47 inside bytes ≡ true → flat_map escaped bytes ≡ bytes
unfolding goes_on
walk_stands inside [] e = refl
walk_stands inside (b ∷ bytes) e =
    ap (λ w. w ++ flat_map escaped bytes) (comes_plain inside b (and_left (may_come Path 47 inside b) _ e))
    ∙ ap (λ w. b ∷ w) (walk_stands (not (b == 47)) bytes (and_right (may_come Path 47 inside b) _ e))

rest_stands : (bytes : List ℕ) → (length bytes == 0 || are_elements Path 47 bytes) ≡ true → flat_map escaped bytes ≡ bytes
rest_stands [] e = refl
rest_stands (b ∷ bytes) e = by (or_cases (length (b ∷ bytes) == 0) (are_elements Path 47 (b ∷ bytes)) e)
  where
    by : ((length (b ∷ bytes) == 0) ≡ true) ⊎ (are_elements Path 47 (b ∷ bytes) ≡ true) → flat_map escaped (b ∷ bytes) ≡ b ∷ bytes
    by (inl empty) = absurd (omega (arith, eqb-true (length (b ∷ bytes)) 0 empty))
    by (inr each) = walk_stands false (b ∷ bytes) (goes_on-are_elements Path 47 (b ∷ bytes) ∙ each)

-- a path stands between quotes as it is
pub path_stands : (bytes : List ℕ) → IsTrue (is_path bytes) → flat_map escaped bytes ≡ bytes
unfolding is_path
path_stands [] h = absurd cc
path_stands (b ∷ bytes) h =
    let first : b ≡ 47 = omega (arith, eqb-true b 47 (and_left (b == 47) _ h)) in
    ap (λ (c : ℕ). escaped c ++ flat_map escaped bytes) first
    ∙ ap (λ w. 47 ∷ w) (rest_stands bytes (and_right (b == 47) _ h))
    ∙ ap (λ (c : ℕ). c ∷ bytes) (sym first)

-- the rule, as its test
pub path_test : (bytes : List ℕ) → IsPath bytes → IsTrue (is_path bytes)
path_test bytes h = is_path-from_IsPath bytes h
