-- Lists that are changed in place.
use Rattle.std.proofs.Common.{◌≡◌, ℕ, ◌+◌, ◌<◌, List, [], ◌∷◌, ◌++◌, length, take, drop, map, get_or, set, zero, suc, ap, arith, add-one, ◌∙◌}
use Rattle.std.proofs.lemmas.Grind.{common_steps}

-- each element up to the place is changed, and then the one at the place
pub map_step : {X : Type 0} (f : X → X) (xs : List X) (i : ℕ) (d : X) → i < length xs
    → set (map f (take i xs) ++ drop i xs) i (f (get_or xs i d)) ≡ map f (take (i + 1) xs) ++ drop (i + 1) xs
map_step f [] i d h = absurd (omega arith)
map_step f (x ∷ xs) zero d h = grind (arith, common_steps)
map_step f (x ∷ xs) (suc i) d h = rw (add-one) (ap (λ zs. f x ∷ zs) (map_step f xs i d (omega arith) ∙ grind (arith, common_steps)))

-- the element at the place is not changed yet
pub map_step_element : {X : Type 0} (f : X → X) (xs : List X) (i : ℕ) (d : X) → i < length xs
    → get_or (map f (take i xs) ++ drop i xs) i d ≡ get_or xs i d
map_step_element f [] i d h = absurd (omega arith)
map_step_element f (x ∷ xs) zero d h = grind (arith, common_steps)
map_step_element f (x ∷ xs) (suc i) d h = map_step_element f xs i d (omega arith)
