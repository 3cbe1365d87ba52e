-- The path of each node is of the rule of paths.
use Rattle.std.proofs.Common.{◌≡◌, ℕ, ◌+◌, ◌<◌, ◌^◌, ◌%◌, Bool, true, false, ◌&&◌, ◌==◌, List, [], ◌∷◌, ◌++◌, refl, arith}
use Rattle.std.proofs.lemmas.Bool.Decides.{nat_tests}
use Rattle.std.proofs.lemmas.Grind.{common_steps}
use Rattle.std.proofs.lemmas.Bool.{and_parts, and_from}
use Rattle.std.specs.Prelude.{codes, ◌||◌}
use Rattle.std.specs.List.{list_all}
use Rattle.std.specs.Char.{is_ascii_digit}
use Rattle.std.specs.Fmt.{decimal}
use Rattle.std.proofs.lemmas.Fmt.{decimal_by_steps}
use Rattle.atspi_base.specs.valid_names.Elements.{parts_of, is_element, are_elements, may_follow}
use Rattle.atspi_base.specs.declared.valid_names.elements.Form.TheVariants.{Path}
use Rattle.atspi_base.specs.valid_names.Names.{is_path}
use Rattle.atspi_tree_model.specs.Path.{base_path}

-- one digit or more
abbrev is_number : List ℕ → Bool
is_number [] = false
is_number (b ∷ bytes) = is_ascii_digit b && list_all is_ascii_digit bytes

digit : (d : ℕ) → d < 10 → is_ascii_digit (48 + d) ≡ true
digit d h = grind (arith, nat_tests, common_steps)

is_number-push : (ds : List ℕ) (d : ℕ) → d < 10 → is_number ds ≡ true → is_number (ds ++ (48 + d) ∷ []) ≡ true
is_number-push [] d h n = absurd cc
is_number-push (first ∷ rest) d h n = let last = digit d h in grind (arith, common_steps)

is_number-decimal : (n : ℕ) → n < 2 ^ 64 → is_number (decimal n) ≡ true
is_number-decimal n h = decimal_by_steps (λ n ds. is_number ds ≡ true) (λ n small. let d = digit n small in rw d) (λ n ds big e. is_number-push ds (n % 10) (omega arith) e) n h

not_slash : (d : ℕ) → is_ascii_digit d ≡ true → (d == 47) ≡ false
not_slash d e = grind (arith, nat_tests, common_steps)

follows : (d : ℕ) → is_ascii_digit d ≡ true → may_follow Path d ≡ true
follows d e = rw e

all_follow : (ds : List ℕ) → list_all is_ascii_digit ds ≡ true → list_all (may_follow Path) ds ≡ true
all_follow [] e = refl
all_follow (d ∷ ds) e = let both = and_parts (is_ascii_digit d) (list_all is_ascii_digit ds) e in and_from (may_follow Path d) (list_all (may_follow Path) ds) (follows d both.0) (all_follow ds both.1)

-- digits are one part, and an element
part_of_digits : (ds : List ℕ) → list_all is_ascii_digit ds ≡ true → parts_of 47 ds ≡ ds ∷ []
unfolding parts_of
part_of_digits [] e = refl
part_of_digits (d ∷ ds) e = let both = and_parts (is_ascii_digit d) (list_all is_ascii_digit ds) e in rw (not_slash d both.0, part_of_digits ds both.1)

all_digits : (ds : List ℕ) → is_number ds ≡ true → list_all is_ascii_digit ds ≡ true
all_digits [] e = refl
all_digits (d ∷ ds) e = e

element_of_digits : (ds : List ℕ) → is_number ds ≡ true → is_element Path ds ≡ true
element_of_digits [] e = absurd cc
element_of_digits (d ∷ ds) e =
    let both = and_parts (is_ascii_digit d) (list_all is_ascii_digit ds) e in and_from (may_follow Path d) (list_all (may_follow Path) ds) (follows d both.0) (all_follow ds both.1)

or_true : (b : Bool) → (b || true) ≡ true
or_true true = refl
or_true false = refl

pub numbered_path : (n : ℕ) → n < 2 ^ 32 → is_path (base_path ++ decimal n) ≡ true
unfolding is_path are_elements parts_of
numbered_path n h =
    let number = is_number-decimal n (omega arith) in
    rw (part_of_digits (decimal n) (all_digits (decimal n) number), element_of_digits (decimal n) number) (or_true _)

pub root_is_path : is_path (codes "/org/a11y/atspi/accessible/root") ≡ true
unfolding is_path are_elements parts_of
root_is_path = refl
