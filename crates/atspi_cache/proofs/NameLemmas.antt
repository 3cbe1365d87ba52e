-- No bus name has a zero byte.
use Rattle.std.proofs.Common.{◌≡◌, ℕ, zero, suc, ◌<◌, List, [], ◌∷◌, Bool, true, false, not, ◌||◌, ◌==◌, refl, ap, arith, if◌then◌else◌, inl, inr}
use Rattle.std.specs.Prelude.{IsTrue}
use Rattle.std.specs.Char.{is_ascii_digit}
use Rattle.std.specs.List.{AllByRecursion}
use Rattle.std.proofs.lemmas.Bool.{and_parts, eqb-true}
use Rattle.atspi_base.specs.Text.{HasNoZero}
use Rattle.atspi_base.specs.valid_names.Elements.{is_plain, may_begin, may_follow, in_front, parts_of}
use Rattle.atspi_base.specs.valid_names.Names.{IsElement, HasBusElements, IsBusName}
use Rattle.atspi_base.specs.declared.valid_names.elements.Form.{Form}
use Rattle.atspi_base.specs.declared.valid_names.elements.Form.TheVariants.{Path, Interface, WellKnown, Unique}

follow_positive : (form : Form) (b : ℕ) → may_follow form b ≡ true → 0 < b
follow_positive Path zero e = absurd cc
follow_positive Interface zero e = absurd cc
follow_positive WellKnown zero e = absurd cc
follow_positive Unique zero e = absurd cc
follow_positive form (suc b) e = omega arith

begin_follows : (form : Form) (b : ℕ) → may_begin form b ≡ true → may_follow form b ≡ true
begin_follows Path b e = e
begin_follows Interface b e = (and_parts (is_plain b) (not (is_ascii_digit b)) e).0
begin_follows WellKnown b e = (and_parts (is_plain b || b == 45) (not (is_ascii_digit b)) e).0
begin_follows Unique b e = e

-- the first of the parts goes on, and the others are elements
Follow : Form → List (List ℕ) → Type 0
Follow form [] = Unit {0}
Follow form (part ∷ parts) = AllByRecursion (λ c. IsTrue (may_follow form c)) part × AllByRecursion (IsElement form) parts

follow_element : (form : Form) (part : List ℕ) → IsElement form part → AllByRecursion (λ c. IsTrue (may_follow form c)) part
follow_element form [] h = absurd h
follow_element form (b ∷ part) h = (begin_follows form b h.0, h.1)

follow_elements : (form : Form) (parts : List (List ℕ)) → AllByRecursion (IsElement form) parts → Follow form parts
unfolding Follow
follow_elements form [] h = tt
follow_elements form (part ∷ parts) h = (follow_element form part h.0, h.1)

follow_front : (form : Form) (b : ℕ) (parts : List (List ℕ)) → Follow form (in_front b parts) → (0 < b) × Follow form parts
unfolding Follow
follow_front form b [] h = (follow_positive form b h.0.0, tt)
follow_front form b (part ∷ parts) h = (follow_positive form b h.0.0, (h.0.1, h.1))

positive_parts : (form : Form) (separator : ℕ) (bytes : List ℕ) → 0 < separator → Follow form (parts_of separator bytes) → AllByRecursion (λ b. 0 < b) bytes
unfolding Follow parts_of
positive_parts form separator [] small h = tt
positive_parts form separator (b ∷ bytes) small h = by (b == separator) refl h (positive_parts form separator bytes small)
  where
    by : (t : Bool) → (b == separator) ≡ t → Follow form (if t then [] ∷ parts_of separator bytes else in_front b (parts_of separator bytes))
        → (Follow form (parts_of separator bytes) → AllByRecursion (λ c. 0 < c) bytes) → AllByRecursion (λ c. 0 < c) (b ∷ bytes)
    by true t h rest = (omega (arith, eqb-true b separator t), rest (follow_elements form (parts_of separator bytes) h.1))
    by false t h rest = let both = follow_front form b (parts_of separator bytes) h in (both.0, rest both.1)

no_zero_in : (bytes : List ℕ) → AllByRecursion (λ b. 0 < b) bytes → HasNoZero bytes
no_zero_in [] h = refl
no_zero_in (zero ∷ bytes) h = absurd (omega (arith, h.0))
no_zero_in (suc b ∷ bytes) h = ap suc (no_zero_in bytes h.1)

positive_elements : (form : Form) (separator : ℕ) (bytes : List ℕ) → 0 < separator → AllByRecursion (IsElement form) (parts_of separator bytes) → AllByRecursion (λ b. 0 < b) bytes
positive_elements form separator bytes small h = positive_parts form separator bytes small (follow_elements form (parts_of separator bytes) h)

pub bus_name_positive : (bytes : List ℕ) → IsBusName bytes → HasNoZero bytes
bus_name_positive bytes h = no_zero_in bytes (by bytes h.elements)
  where
    by : (bytes : List ℕ) → HasBusElements bytes → AllByRecursion (λ c. 0 < c) bytes
    by [] h = absurd h
    by (b ∷ bytes) (inl h) = (omega (arith, h.0), positive_elements Unique 46 bytes (omega arith) h.1.each)
    by (b ∷ bytes) (inr h) = positive_elements WellKnown 46 (b ∷ bytes) (omega arith) h.each
