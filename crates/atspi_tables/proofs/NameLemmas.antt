-- Names that stand at one place.
use Rattle.std.proofs.Common.{◌≡◌, ℕ, zero, suc, ◌<◌, Bool, true, false, ◌&&◌, not, List, [], ◌∷◌, get_or, Option, Some, None, refl, sym, ap, ◌∙◌, subst}
use Rattle.std.specs.Prelude.{slice_get}
use Rattle.std.specs.List.{list_all}
use Rattle.std.specs.Char.{is_ascii_digit}
use Rattle.std.specs.Str.{bytes_eq}
use Rattle.std.proofs.lemmas.Bool.{false≢true}
use Rattle.std.proofs.lemmas.Slice.Eq.{bytes_eq-Decides}
use Rattle.atspi_tables.specs.Names.{TellsPlaces, BeginsWithNoDigit}
use Rattle.atspi_tables.specs.Roles.{role_names, role_words}
use Rattle.atspi_tables.specs.States.{state_names}

and_right : (a b : Bool) → a && b ≡ true → b ≡ true
and_right true b h = h
and_right false b h = absurd (false≢true h)

and_left : (a b : Bool) → a && b ≡ true → a ≡ true
and_left true b h = refl
and_left false b h = absurd (false≢true h)

all_pass : {X : Type 0} (p : X → Bool) (xs : List X) (i : ℕ) (x : X) → list_all p xs ≡ true → slice_get xs i ≡ Some x → p x ≡ true
all_pass p [] i x h e = cc
all_pass p (y ∷ ys) zero x h e = let is : y ≡ x = cc in subst (λ z. p z ≡ true) is (and_left (p y) (list_all p ys) h)
all_pass p (y ∷ ys) (suc i) x h e = all_pass p ys i x (and_right (p y) (list_all p ys) h) e

-- each name differs from those behind it
are_apart : List (List ℕ) → Bool
are_apart [] = true
are_apart (n ∷ ns) = list_all (λ m. not (bytes_eq n m)) ns && are_apart ns

not_same : (n m : List ℕ) → not (bytes_eq n m) ≡ true → n ≡ m → ⊥
not_same n m h e = let f : not true ≡ true = subst (λ b. not b ≡ true) ((bytes_eq-Decides n m).1 e) h in false≢true f

-- a name that stands before others is none of them
not_behind : (n : List ℕ) (ns : List (List ℕ)) (i : ℕ) (name : List ℕ)
    → list_all (λ m. not (bytes_eq n m)) ns ≡ true → n ≡ name → slice_get ns i ≡ Some name → ⊥
not_behind n ns i name h e g = not_same n name (all_pass (λ m. not (bytes_eq n m)) ns i name h g) e

places_told : (names : List (List ℕ)) → are_apart names ≡ true → TellsPlaces names
unfolding are_apart
places_told [] h i j name e g = cc
places_told (n ∷ ns) h zero zero name e g = refl
places_told (n ∷ ns) h zero (suc j) name e g =
    let is : n ≡ name = cc in
    absurd (not_behind n ns j name (and_left (list_all (λ m. not (bytes_eq n m)) ns) (are_apart ns) h) is g)
places_told (n ∷ ns) h (suc i) zero name e g =
    let is : n ≡ name = cc in
    absurd (not_behind n ns i name (and_left (list_all (λ m. not (bytes_eq n m)) ns) (are_apart ns) h) is e)
places_told (n ∷ ns) h (suc i) (suc j) name e g =
    ap suc (places_told ns (and_right (list_all (λ m. not (bytes_eq n m)) ns) (are_apart ns) h) i j name e g)

begins_with_no_digit : List ℕ → Bool
begins_with_no_digit name = not (is_ascii_digit (get_or name 0 0))

not_true : (b : Bool) → not b ≡ true → b ≡ false
not_true true h = sym h
not_true false h = refl

no_digits : (names : List (List ℕ)) → list_all begins_with_no_digit names ≡ true → BeginsWithNoDigit names
unfolding begins_with_no_digit
no_digits names h i name e = not_true (is_ascii_digit (get_or name 0 0)) (all_pass begins_with_no_digit names i name h e)

words_apart : are_apart role_words ≡ true
unfolding are_apart role_words role_names
words_apart = refl

names_apart : are_apart role_names ≡ true
unfolding are_apart role_names
names_apart = refl

states_apart : are_apart state_names ≡ true
unfolding are_apart state_names
states_apart = refl

words_begin : list_all begins_with_no_digit role_words ≡ true
unfolding begins_with_no_digit role_words role_names
words_begin = refl

pub words_tell_roles : TellsPlaces role_words
words_tell_roles = places_told role_words words_apart

pub names_tell_roles : TellsPlaces role_names
names_tell_roles = places_told role_names names_apart

pub names_tell_states : TellsPlaces state_names
names_tell_states = places_told state_names states_apart

pub words_are_no_numbers : BeginsWithNoDigit role_words
words_are_no_numbers = no_digits role_words words_begin
