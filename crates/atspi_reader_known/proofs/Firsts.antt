-- The first of some.
use Rattle.std.proofs.Common.{◌≡◌, List, [], ◌∷◌, ◌++◌, map, Option, Some, None, refl, ap}
use Rattle.std.specs.Option.{option_map}
use Rattle.atspi_tree_model.specs.Forest.{first_of}
use Rattle.atspi_reader_known.specs.Wanted.{first}

pub first-append : {A : Type 0} (xs ys : List A) → first (xs ++ ys) ≡ first_of (first xs) (first ys)
first-append [] ys = refl
first-append (x ∷ xs) ys = refl

pub first-map : {A B : Type 0} (g : A → B) (xs : List A) → first (map g xs) ≡ option_map g (first xs)
first-map g [] = refl
first-map g (x ∷ xs) = refl

pub first_of-map : {A B : Type 0} (g : A → B) (x y : Option A) → first_of (option_map g x) (option_map g y) ≡ option_map g (first_of x y)
first_of-map g None y = refl
first_of-map g (Some x) y = refl

pub none_first : {A : Type 0} (xs : List A) → first xs ≡ None → xs ≡ []
none_first [] e = refl
none_first (x ∷ xs) e = absurd cc

pub first_none : {A : Type 0} (xs : List A) → xs ≡ [] → first xs ≡ None
first_none xs e = ap first e

pub none_mapped : {A B : Type 0} (g : A → B) (o : Option A) → option_map g o ≡ None → o ≡ None
none_mapped g None e = refl
none_mapped g (Some x) e = absurd cc

pub none_left : {A : Type 0} (x y : Option A) → first_of x y ≡ None → x ≡ None
none_left None y e = refl
none_left (Some x) y e = absurd cc

pub none_right : {A : Type 0} (x y : Option A) → first_of x y ≡ None → y ≡ None
none_right None y e = e
none_right (Some x) y e = absurd cc
