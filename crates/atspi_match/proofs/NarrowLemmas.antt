-- The values that some conditions ask for, and of these the one for which the fewest rules ask.
use Rattle.std.proofs.Common.{◌≡◌, ◌⊎◌, ℕ, ◌+◌, ◌<◌, ◌≤◌, List, [], ◌∷◌, ◌++◌, length, take, get_or, Option, None, Some, refl, sym, ap, ◌∙◌, subst, inl, inr, ⊎_elim, arith}
use Rattle.std.specs.List.{Contains}
use Rattle.std.specs.Option.{option_map}
use Rattle.std.proofs.lemmas.List.{take_more}
use Rattle.std.proofs.lemmas.List.Elements.{Contains-append_left, Contains-push, Contains-push_cases}
use Rattle.atspi_match.specs.declared.condition.Condition.{Condition}
use Rattle.atspi_match.specs.Groups.{asked, mark_of, IsAsked, IsOwn}
use Rattle.atspi_match.specs.Noted.{Sets, askers_in}
use Rattle.atspi_match.specs.RuleGroups.{IsNarrowest}

-- the number of the value that a condition asks for
abbrev pub number_of : Condition → Option ℕ
number_of c = option_map mark_of (asked c)

no_number : {n : ℕ} → None ≡ Some n → ⊥
no_number e = cc

same_number : {m n : ℕ} → Some m ≡ Some n → n ≡ m
same_number e = cc

-- the values of no condition, and those of one condition more
pub asked-none : (n : ℕ) → ¬ IsAsked [] n
asked-none n h = absurd (omega (arith, h.1.1))

pub asked-more : (seen : List Condition) (c : Condition) (n : ℕ) → IsAsked seen n → IsAsked (seen ++ c ∷ []) n
asked-more seen c n h = (h.0, Contains-append_left seen (c ∷ []) h.0 h.1, h.2)

pub asked-last : (seen : List Condition) (c : Condition) (n : ℕ) → number_of c ≡ Some n → IsAsked (seen ++ c ∷ []) n
asked-last seen c n is = (c, Contains-push seen c, is)

pub asked-cases : (seen : List Condition) (c : Condition) (n : ℕ) → IsAsked (seen ++ c ∷ []) n → IsAsked seen n ⊎ (number_of c ≡ Some n)
asked-cases seen c n h =
    ⊎_elim (λ was. inl (h.0, was, h.2)) (λ is. inr (ap number_of is ∙ h.2)) (Contains-push_cases seen c h.0 h.1)

-- a condition more of a list
pub seen-more : (xs : List Condition) (i : ℕ) (c : Condition) → i < length xs → c ≡ get_or xs i c → take (i + 1) xs ≡ take i xs ++ c ∷ []
seen-more xs i c lt is = take_more xs i c lt ∙ ap (λ d. take i xs ++ d ∷ []) (sym is)

-- the best group of those that the conditions seen so far name, and how many rules ask for its value
pub record IsBest (sets : Sets) (seen : List Condition) (group fewest : ℕ) : Type 0 where
  pub named : (IsAsked seen group × (fewest ≡ askers_in sets group)) ⊎ ((group ≡ 0) × (fewest ≡ 18446744073709551615) × ((m : ℕ) → ¬ IsAsked seen m))
  pub least : (m : ℕ) → IsAsked seen m → fewest ≤ askers_in sets m

-- the same under other names
pub best-as : (sets : Sets) (a b : List Condition) (g k f e : ℕ) → a ≡ b → g ≡ k → f ≡ e → IsBest sets b k e → IsBest sets a g f
best-as sets a b g k f e seen group fewest was =
    subst (λ l. IsBest sets l g f) (sym seen) (subst (λ n. IsBest sets b n f) (sym group) (subst (λ n. IsBest sets b k n) (sym fewest) was))

pub best-start : (sets : Sets) → IsBest sets [] 0 18446744073709551615
best-start sets = record { named = inr (refl, refl, asked-none); least = λ m h. absurd (asked-none m h) }

-- a condition that asks for no such value
pub best-other : (sets : Sets) (seen : List Condition) (c : Condition) (group fewest : ℕ) → number_of c ≡ None → IsBest sets seen group fewest → IsBest sets (seen ++ c ∷ []) group fewest
best-other sets seen c group fewest none was = record {
  named = ⊎_elim (λ h. inl (asked-more seen c group h.0, h.1)) (λ h. inr (h.0, h.1, λ m a. h.2 m (back m a))) was.named;
  least = λ m a. was.least m (back m a);
}
  where
    back : (m : ℕ) → IsAsked (seen ++ c ∷ []) m → IsAsked seen m
    back m a = ⊎_elim (λ h. h) (λ is. absurd (no_number (sym none ∙ is))) (asked-cases seen c m a)

-- one for whose value no more ask
pub best-next : (sets : Sets) (seen : List Condition) (c : Condition) (group fewest n : ℕ) → number_of c ≡ Some n → askers_in sets n ≤ fewest → IsBest sets seen group fewest
    → IsBest sets (seen ++ c ∷ []) n (askers_in sets n)
best-next sets seen c group fewest n is le was = record {
  named = inl (asked-last seen c n is, refl);
  least = λ m a. ⊎_elim (λ h. (let l = was.least m h in omega arith))
      (λ h. subst (λ k. askers_in sets n ≤ askers_in sets k) (same_number (sym h ∙ is)) (omega arith)) (asked-cases seen c m a);
}

-- one for whose value more ask
pub best-kept : (sets : Sets) (seen : List Condition) (c : Condition) (group fewest n : ℕ) → number_of c ≡ Some n → fewest < askers_in sets n → askers_in sets n < 18446744073709551616
    → IsBest sets seen group fewest → IsBest sets (seen ++ c ∷ []) group fewest
best-kept sets seen c group fewest n is lt small was = record {
  named = ⊎_elim (λ h. inl (asked-more seen c group h.0, h.1)) (λ h. absurd (let f = h.1 in omega arith)) was.named;
  least = λ m a. ⊎_elim (was.least m) (λ h. subst (λ k. fewest ≤ askers_in sets k) (same_number (sym h ∙ is)) (omega arith)) (asked-cases seen c m a);
}

pub best-end : (sets : Sets) (rule : List Condition) (group fewest : ℕ) → IsBest sets rule group fewest → IsNarrowest sets rule group
best-end sets rule group fewest was = record {
  own = ⊎_elim (λ h. inl h.0) (λ h. inr (h.0, h.2)) was.named;
  fewest = λ m a. ⊎_elim (λ h. subst (λ k. k ≤ askers_in sets m) h.1 (was.least m a)) (λ h. absurd (h.2 m a)) was.named;
}
