-- Bus names as texts: their bytes are their characters, and none is zero.
use Rattle.std.proofs.Common.{◌≡◌, ℕ, zero, suc, ◌+◌, ◌<◌, ◌≤◌, ◌==◌, Bool, true, false, ◌⊎◌, inl, inr, List, [], ◌∷◌, length, not, ◌^◌, refl, sym, ap, ◌∙◌, subst, arith, chars, IsUtf8}
use Rattle.std.specs.Prelude.{IsTrue, if◌then◌else◌, encode_utf8_all, Err}
use Rattle.std.specs.List.{AllByRecursion}
use Rattle.std.specs.Str.{IsAscii}
use Rattle.std.specs.Cmp.{both_ways}
use Rattle.std.proofs.lemmas.Str.{chars-IsAscii, encodes-chars, encodes-IsAscii}
use Rattle.std.proofs.lemmas.Bool.{and_parts}
use Rattle.std.specs.Char.{is_ascii_digit}
use borrow.Author.Tests.{eqb-true}
use Rattle.atspi_base.specs.Text.{HasNoZero, bytes_before_zero}
use Rattle.atspi_base.specs.declared.valid_names.elements.Form.{Form}
use Rattle.atspi_base.specs.declared.valid_names.elements.Form.TheVariants.{Path, Interface, WellKnown, Unique}
use Rattle.atspi_base.specs.valid_names.Elements.{may_follow, may_begin, parts_of, in_front}
use Rattle.atspi_base.specs.valid_names.Names.{IsElement, IsBusName, HasBusElements, is_bus_name, ReadsName}
use Rattle.atspi_base.specs.declared.valid_names.fault.NameFault.{NameFault}
use Rattle.atspi_base.specs.declared.valid_names.fault.NameFault.TheVariants as faults
use Rattle.atspi_base.proofs.OfValidNames.NameLemmas.{IsAscii-IsBusName, IsBusName-from_test}

-- a byte of an element is not zero
follow_above : (form : Form) (b : ℕ) → may_follow form b ≡ true → 0 < b
follow_above Path zero e = absurd cc
follow_above Interface zero e = absurd cc
follow_above WellKnown zero e = absurd cc
follow_above Unique zero e = absurd cc
follow_above form (suc b) e = omega arith

begin_follows : (form : Form) (b : ℕ) → may_begin form b ≡ true → may_follow form b ≡ true
begin_follows Path b e = e
begin_follows Interface b e = (and_parts (may_follow Interface b) (not (is_ascii_digit b)) e).0
begin_follows WellKnown b e = (and_parts (may_follow WellKnown b) (not (is_ascii_digit b)) e).0
begin_follows Unique b e = e

-- the first of the parts goes on, and the others are elements
abbrev Follow : Form → List (List ℕ) → Type 0
Follow form [] = Unit {0}
Follow form (part ∷ parts) = AllByRecursion (λ c. IsTrue (may_follow form c)) part × AllByRecursion (IsElement form) parts

follow_element : (form : Form) (part : List ℕ) → IsElement form part → AllByRecursion (λ c. IsTrue (may_follow form c)) part
follow_element form [] h = absurd h
follow_element form (b ∷ part) h = (begin_follows form b h.0, h.1)

follow_elements : (form : Form) (parts : List (List ℕ)) → AllByRecursion (IsElement form) parts → Follow form parts
follow_elements form [] h = tt
follow_elements form (part ∷ parts) h = (follow_element form part h.0, h.1)

follow_front : (form : Form) (b : ℕ) (parts : List (List ℕ)) → Follow form (in_front b parts) → (0 < b) × Follow form parts
follow_front form b [] h = (follow_above form b h.0.0, tt)
follow_front form b (part ∷ parts) h = (follow_above form b h.0.0, (h.0.1, h.1))

above_parts : (form : Form) (bytes : List ℕ) → Follow form (parts_of 46 bytes) → AllByRecursion (λ b. 0 < b) bytes
unfolding parts_of
above_parts form [] h = tt
above_parts form (b ∷ bytes) h = by (b == 46) refl h (above_parts form bytes)
  where
    by : (t : Bool) → (b == 46) ≡ t → Follow form (if t then [] ∷ parts_of 46 bytes else in_front b (parts_of 46 bytes))
        → (Follow form (parts_of 46 bytes) → AllByRecursion (λ c. 0 < c) bytes) → AllByRecursion (λ c. 0 < c) (b ∷ bytes)
    by true t h rest = (omega (arith, eqb-true b 46 t), rest (follow_elements form (parts_of 46 bytes) h.1))
    by false t h rest = let both = follow_front form b (parts_of 46 bytes) h in (both.0, rest both.1)

above_elements : (bytes : List ℕ) → HasBusElements bytes → AllByRecursion (λ c. 0 < c) bytes
above_elements [] h = absurd h
above_elements (b ∷ bytes) (inl h) = (omega (arith, h.0), above_parts Unique bytes (follow_elements Unique (parts_of 46 bytes) h.1.each))
above_elements (b ∷ bytes) (inr h) = above_parts WellKnown (b ∷ bytes) (follow_elements WellKnown (parts_of 46 (b ∷ bytes)) h.each)

no_zero_at : (bytes : List ℕ) → AllByRecursion (λ c. 0 < c) bytes → HasNoZero bytes
no_zero_at [] h = refl
no_zero_at (zero ∷ bytes) h = absurd (omega (arith, h.0))
no_zero_at (suc b ∷ bytes) h = ap (λ (n : ℕ). suc n) (no_zero_at bytes h.1)

pub name-no_zero : (bytes : List ℕ) → IsBusName bytes → HasNoZero bytes
name-no_zero bytes h = no_zero_at bytes (above_elements bytes h.elements)

pub name-counted : (bytes : List ℕ) → IsBusName bytes → length bytes < 2 ^ 32
name-counted bytes h = omega (arith, h.short)

pub name-chars : (bytes : List ℕ) → IsBusName bytes → chars bytes ≡ bytes
name-chars bytes h = chars-IsAscii bytes (IsAscii-IsBusName bytes h)
