-- The unique names `:1.n` are bus names, and no two are the same.
use Rattle.std.proofs.Common.{◌≡◌, ℕ, ◌+◌, ◌<◌, ◌^◌, ◌%◌, Bool, true, false, ◌&&◌, ◌==◌, List, [], ◌∷◌, ◌++◌, length, refl, subst, arith}
use Rattle.std.proofs.lemmas.Bool.Decides.{nat_tests}
use Rattle.std.proofs.lemmas.Grind.{common_steps}
use Rattle.std.specs.Prelude.{Err}
use Rattle.std.proofs.lemmas.Bool.{and_parts, and_from, le-leb}
use Rattle.std.specs.List.{list_all}
use Rattle.std.specs.Char.{is_ascii_digit}
use Rattle.std.specs.Fmt.{decimal}
use Rattle.std.proofs.lemmas.Fmt.{decimal_by_steps, length-decimal-le, decimal_injective}
use Rattle.atspi_base.specs.valid_names.Elements.{parts_of, is_element, are_elements, are_two_or_more, may_follow}
use Rattle.atspi_base.specs.declared.valid_names.elements.Form.TheVariants.{Unique}
use Rattle.atspi_base.specs.valid_names.Names.{is_bus_name, ReadsName}
use Rattle.atspi_base.specs.declared.valid_names.fault.NameFault.{NameFault}
use Rattle.atspi_base.specs.declared.valid_names.fault.NameFault.TheVariants.{Form}
use Rattle.atspi_names.specs.Owners.{unique_name, own_name}

-- one digit or more
abbrev is_number : List ℕ → Bool
is_number [] = false
is_number (b ∷ bytes) = is_ascii_digit b && list_all is_ascii_digit bytes

digit : (d : ℕ) → d < 10 → is_ascii_digit (48 + d) ≡ true
digit d h = grind (arith, nat_tests, common_steps)

is_number-push : (ds : List ℕ) (d : ℕ) → d < 10 → is_number ds ≡ true → is_number (ds ++ (48 + d) ∷ []) ≡ true
is_number-push [] d h n = absurd cc
is_number-push (first ∷ rest) d h n = let last = digit d h in grind (arith, common_steps)

is_number-decimal : (n : ℕ) → n < 2 ^ 64 → is_number (decimal n) ≡ true
is_number-decimal n h = decimal_by_steps (λ n ds. is_number ds ≡ true) (λ n small. let d = digit n small in rw d) (λ n ds big e. is_number-push ds (n % 10) (omega arith) e) n h

not_dot : (d : ℕ) → is_ascii_digit d ≡ true → (d == 46) ≡ false
not_dot d e = grind (arith, nat_tests, common_steps)

follows : (d : ℕ) → is_ascii_digit d ≡ true → may_follow Unique d ≡ true
follows d e = rw e

all_follow : (ds : List ℕ) → list_all is_ascii_digit ds ≡ true → list_all (may_follow Unique) ds ≡ true
all_follow [] e = refl
all_follow (d ∷ ds) e = let both = and_parts (is_ascii_digit d) (list_all is_ascii_digit ds) e in and_from (may_follow Unique d) (list_all (may_follow Unique) ds) (follows d both.0) (all_follow ds both.1)

-- digits are one part, and an element
part_of_digits : (ds : List ℕ) → list_all is_ascii_digit ds ≡ true → parts_of 46 ds ≡ ds ∷ []
unfolding parts_of
part_of_digits [] e = refl
part_of_digits (d ∷ ds) e = let both = and_parts (is_ascii_digit d) (list_all is_ascii_digit ds) e in rw (not_dot d both.0, part_of_digits ds both.1)

all_digits : (ds : List ℕ) → is_number ds ≡ true → list_all is_ascii_digit ds ≡ true
all_digits [] e = refl
all_digits (d ∷ ds) e = e

element_of_digits : (ds : List ℕ) → is_number ds ≡ true → is_element Unique ds ≡ true
element_of_digits [] e = absurd cc
element_of_digits (d ∷ ds) e =
    let both = and_parts (is_ascii_digit d) (list_all is_ascii_digit ds) e in and_from (may_follow Unique d) (list_all (may_follow Unique) ds) (follows d both.0) (all_follow ds both.1)

pub is_bus_name-unique_name : (n : ℕ) → n < 2 ^ 32 → is_bus_name (unique_name n) ≡ true
unfolding is_bus_name are_two_or_more are_elements parts_of
is_bus_name-unique_name n h =
    let number = is_number-decimal n (omega arith) in
    rw (part_of_digits (decimal n) (all_digits (decimal n) number), element_of_digits (decimal n) number)
    (le-leb (length (unique_name n)) 255 (omega (arith, length-decimal-le 10 n (omega arith) (omega arith) (omega arith))))

pub is_bus_name-own_name : is_bus_name own_name ≡ true
unfolding is_bus_name are_two_or_more are_elements parts_of
is_bus_name-own_name = refl

pub unique_name-injective : (m n : ℕ) → m < 2 ^ 32 → n < 2 ^ 32 → unique_name m ≡ unique_name n → m ≡ n
unique_name-injective m n small below e = decimal_injective m n (omega arith) (omega arith) cc

-- the bytes of a bus name are read as one
pub never_refused : (fault : NameFault) (bytes : List ℕ) → is_bus_name bytes ≡ true → ReadsName is_bus_name (Err fault) bytes → fault ≡ Form → ⊥
never_refused fault bytes name answer form = let refused : is_bus_name bytes ≡ false = subst (λ f. ReadsName is_bus_name (Err f) bytes) form answer in cc
