-- An end that is new stands behind the others.
use Rattle.std.proofs.Common.{◌≡◌, List, [], ◌∷◌, ◌++◌, map, ap, ◌∙◌}
use Rattle.std.proofs.lemmas.List.{map-append}

-- what is pushed stands last, as it is seen
pub pushed_is : {X Y : Type 0} (f : X → Y) (xs ys : List X) (x : X) (y : Y) → ys ≡ xs ++ x ∷ [] → f x ≡ y → map f ys ≡ map f xs ++ y ∷ []
pushed_is f xs ys x y pushed seen = ap (map f) pushed ∙ map-append f xs (x ∷ []) ∙ ap (λ z. map f xs ++ z ∷ []) seen
