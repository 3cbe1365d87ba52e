-- Properties listed one after the other.
use Rattle.std.proofs.Common.{◌≡◌, List, [], ◌∷◌, ◌++◌, sym, ap, ◌∙◌}
use Rattle.atspi_types.specs.Kinds.{Kind}
use Rattle.atspi_types.specs.Data.{Data, variant_data, type_of}
use Rattle.atspi_protocol.specs.objects.Values.{in_variant}

-- a list that grew element by element
pub one_put : {A : Type 0} (a : A) (p q : List A) → p ≡ [] → p ++ a ∷ [] ≡ q → a ∷ [] ≡ q
one_put {A} a p q e f = sym (ap (λ (xs : List A). xs ++ a ∷ []) e) ∙ f

pub more_put : {A : Type 0} (a : A) (p q xs : List A) → xs ≡ p → p ++ a ∷ [] ≡ q → xs ++ a ∷ [] ≡ q
more_put {A} a p q xs e f = ap (λ (xs : List A). xs ++ a ∷ []) e ∙ f

-- a value of a type in a variant
pub put_in_variant : {d : Data} (k : Kind) (e v : Data) → type_of d ≡ k → d ≡ e → v ≡ variant_data k e → in_variant d ≡ v
put_in_variant {d} k e v t is h = ap (λ m. variant_data m d) t ∙ ap (variant_data k) is ∙ sym h

-- an entry more
pub entry_put : {A B : Type 0} (a d : A) (b e : B) (p q : List (A × B)) → d ≡ a → b ≡ e → q ≡ p ++ (d, e) ∷ [] → p ++ (a, b) ∷ [] ≡ q
entry_put {A} {B} a d b e p q h k f =
    ap (λ (y : B). p ++ (a, y) ∷ []) k ∙ sym (ap (λ (x : A). p ++ (x, e) ∷ []) h) ∙ sym f
