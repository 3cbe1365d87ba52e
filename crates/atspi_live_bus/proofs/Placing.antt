-- Where the first link stands that passes a test.
use Rattle.std.proofs.Common.{◌≡◌, ℕ, ◌+◌, Bool, true, false, cond, List, [], ◌∷◌, length, suc, Option, None, Some, refl, ap, ◌∙◌, arith}
use Rattle.std.specs.Prelude.{nat_lt}
use Rattle.std.specs.List.{position, position_or_len}
use Rattle.std.specs.Option.{option_map}
use Rattle.std.proofs.lemmas.Bool.Decides.{nat_tests}
use Rattle.atspi_live_bus.specs.declared.link.Link.{Link}

-- the first that passes, by recursion
abbrev pub first_place : (Link → Bool) → List Link → Option ℕ
first_place p [] = None
first_place p (x ∷ xs) = cond (p x) (Some 0) (option_map (λ n. suc n) (first_place p xs))

front_one : (len : ℕ) → cond {A = Option ℕ} (nat_lt 0 (suc len)) (Some 0) None ≡ Some 0
front_one len = grind (arith, nat_tests)

one_more : (place len : ℕ) → cond (nat_lt (1 + place) (suc len)) (Some (1 + place)) None ≡ option_map (λ n. suc n) (cond (nat_lt place len) (Some place) None)
one_more place len = grind (arith, nat_tests)

pub position_first : (p : Link → Bool) (xs : List Link) → position p xs ≡ first_place p xs
position_first p [] = refl
position_first p (x ∷ xs) = by (p x) refl (position_first p xs)
  where
    by : (b : Bool) → p x ≡ b → position p xs ≡ first_place p xs → position p (x ∷ xs) ≡ first_place p (x ∷ xs)
    by true e h = rw e (front_one (length xs))
    by false e h = rw e (one_more (position_or_len p xs) (length xs) ∙ ap (option_map (λ n. suc n)) h)

pub none_further : (o : Option ℕ) → option_map (λ n. suc n) o ≡ None → o ≡ None
none_further None e = refl
none_further (Some n) e = absurd cc

pub some_none : (n : ℕ) → Some n ≡ None → ⊥
some_none n e = cc
