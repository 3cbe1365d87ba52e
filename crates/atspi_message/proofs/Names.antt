-- No name has a zero byte, and a name is read as the text of its bytes.
use Rattle.std.proofs.Common.{◌≡◌, ℕ, zero, suc, ◌<◌, ◌≤◌, List, [], ◌∷◌, length, Bool, true, false, not, ◌||◌, ◌==◌, refl, sym, ap, ◌∙◌, arith, if◌then◌else◌, inl, inr, ◌⊎◌, chars, encode_utf8_all, Result, Ok, Err}
use Rattle.std.specs.Prelude.{IsTrue}
use Rattle.std.specs.Str.{IsAscii}
use Rattle.std.specs.Char.{is_ascii_digit}
use Rattle.std.specs.List.{AllByRecursion}
use Rattle.std.proofs.lemmas.Bool.{and_parts, eqb-true}
use Rattle.std.proofs.lemmas.Str.{IsUtf8-from_ascii, chars-IsAscii, encodes-IsAscii}
use Rattle.atspi_base.specs.Text.{bytes_before_zero, HasNoZero}
use Rattle.atspi_base.specs.ReadsText.{text_in}
use Rattle.atspi_base.specs.declared.text.TextFault.{TextFault}
use Rattle.atspi_base.proofs.TextLemmas.{whole}
use Rattle.atspi_base.specs.valid_names.Elements.{is_plain, may_begin, may_follow, is_element, in_front, parts_of}
use Rattle.atspi_base.specs.valid_names.Names.{IsElement, AreElements, IsInterface, IsMember, HasBusElements, IsBusName}
use Rattle.atspi_base.specs.declared.valid_names.elements.Form.{Form}
use Rattle.atspi_base.specs.declared.valid_names.elements.Form.TheVariants.{Path, Interface, WellKnown, Unique}
use Rattle.atspi_base.proofs.OfValidNames.NameLemmas.{IsAscii-IsInterface, IsAscii-IsMember, IsAscii-IsBusName, IsInterface-from_test, IsMember-from_test, IsBusName-from_test, is_interface-from_IsInterface, is_member-from_IsMember, is_bus_name-from_IsBusName}
use Rattle.atspi_message.specs.declared.code.Code.{Code}
use Rattle.atspi_message.specs.declared.code.Code.TheVariants as codes
use Rattle.atspi_message.specs.Codes.{IsText, IsNameFor}
use Rattle.atspi_message.specs.inner.Reading.{is_name}

follow_positive : (form : Form) (b : ℕ) → may_follow form b ≡ true → 0 < b
follow_positive Path zero e = absurd cc
follow_positive Interface zero e = absurd cc
follow_positive WellKnown zero e = absurd cc
follow_positive Unique zero e = absurd cc
follow_positive form (suc b) e = omega arith

begin_follows : (form : Form) (b : ℕ) → may_begin form b ≡ true → may_follow form b ≡ true
begin_follows Path b e = e
begin_follows Interface b e = (and_parts (is_plain b) (not (is_ascii_digit b)) e).0
begin_follows WellKnown b e = (and_parts (is_plain b || b == 45) (not (is_ascii_digit b)) e).0
begin_follows Unique b e = e

-- the first of the parts goes on, and the others are elements
Follow : Form → List (List ℕ) → Type 0
Follow form [] = Unit {0}
Follow form (part ∷ parts) = AllByRecursion (λ c. IsTrue (may_follow form c)) part × AllByRecursion (IsElement form) parts

follow_element : (form : Form) (part : List ℕ) → IsElement form part → AllByRecursion (λ c. IsTrue (may_follow form c)) part
follow_element form [] h = absurd h
follow_element form (b ∷ part) h = (begin_follows form b h.0, h.1)

follow_elements : (form : Form) (parts : List (List ℕ)) → AllByRecursion (IsElement form) parts → Follow form parts
unfolding Follow
follow_elements form [] h = tt
follow_elements form (part ∷ parts) h = (follow_element form part h.0, h.1)

follow_front : (form : Form) (b : ℕ) (parts : List (List ℕ)) → Follow form (in_front b parts) → (0 < b) × Follow form parts
unfolding Follow
follow_front form b [] h = (follow_positive form b h.0.0, tt)
follow_front form b (part ∷ parts) h = (follow_positive form b h.0.0, (h.0.1, h.1))

positive_parts : (form : Form) (separator : ℕ) (bytes : List ℕ) → 0 < separator → Follow form (parts_of separator bytes) → AllByRecursion (λ b. 0 < b) bytes
unfolding Follow parts_of
positive_parts form separator [] small h = tt
positive_parts form separator (b ∷ bytes) small h = by (b == separator) refl h (positive_parts form separator bytes small)
  where
    by : (t : Bool) → (b == separator) ≡ t → Follow form (if t then [] ∷ parts_of separator bytes else in_front b (parts_of separator bytes))
        → (Follow form (parts_of separator bytes) → AllByRecursion (λ c. 0 < c) bytes) → AllByRecursion (λ c. 0 < c) (b ∷ bytes)
    by true t h rest = (omega (arith, eqb-true b separator t), rest (follow_elements form (parts_of separator bytes) h.1))
    by false t h rest = let both = follow_front form b (parts_of separator bytes) h in (both.0, rest both.1)

no_zero_in : (bytes : List ℕ) → AllByRecursion (λ b. 0 < b) bytes → HasNoZero bytes
no_zero_in [] h = refl
no_zero_in (zero ∷ bytes) h = absurd (omega (arith, h.0))
no_zero_in (suc b ∷ bytes) h = ap suc (no_zero_in bytes h.1)

positive_elements : (form : Form) (separator : ℕ) (bytes : List ℕ) → 0 < separator → AllByRecursion (IsElement form) (parts_of separator bytes) → AllByRecursion (λ b. 0 < b) bytes
positive_elements form separator bytes small h = positive_parts form separator bytes small (follow_elements form (parts_of separator bytes) h)

positive_follow : (form : Form) (bytes : List ℕ) → AllByRecursion (λ c. IsTrue (may_follow form c)) bytes → AllByRecursion (λ b. 0 < b) bytes
positive_follow form [] h = tt
positive_follow form (b ∷ bytes) h = (follow_positive form b h.0, positive_follow form bytes h.1)

interface_positive : (bytes : List ℕ) → IsInterface bytes → HasNoZero bytes
interface_positive bytes h = no_zero_in bytes (positive_elements Interface 46 bytes (omega arith) h.elements.each)

member_positive : (bytes : List ℕ) → IsMember bytes → HasNoZero bytes
member_positive bytes h = no_zero_in bytes (positive_follow Interface bytes (follow_element Interface bytes h.element))

bus_name_positive : (bytes : List ℕ) → IsBusName bytes → HasNoZero bytes
bus_name_positive bytes h = no_zero_in bytes (by bytes h.elements)
  where
    by : (bytes : List ℕ) → HasBusElements bytes → AllByRecursion (λ c. 0 < c) bytes
    by [] h = absurd h
    by (b ∷ bytes) (inl h) = (omega (arith, h.0), positive_elements Unique 46 bytes (omega arith) h.1.each)
    by (b ∷ bytes) (inr h) = positive_elements WellKnown 46 (b ∷ bytes) (omega arith) h.each

-- a name of a field is ASCII without a zero byte
pub name_is_plain : (c : Code) (bytes : List ℕ) → IsNameFor c bytes → IsAscii bytes × HasNoZero bytes
name_is_plain codes.Path bytes h = absurd h
name_is_plain codes.Interface bytes h = (IsAscii-IsInterface bytes h, interface_positive bytes h)
name_is_plain codes.Member bytes h = (IsAscii-IsMember bytes h, member_positive bytes h)
name_is_plain codes.Error bytes h = (IsAscii-IsInterface bytes h, interface_positive bytes h)
name_is_plain codes.Reply bytes h = absurd h
name_is_plain codes.Destination bytes h = (IsAscii-IsBusName bytes h, bus_name_positive bytes h)
name_is_plain codes.Sender bytes h = (IsAscii-IsBusName bytes h, bus_name_positive bytes h)
name_is_plain codes.Signature bytes h = absurd h
name_is_plain codes.Descriptors bytes h = absurd h

-- the rule and its test say the same
pub name_from_test : (c : Code) (bytes : List ℕ) → IsText c → is_name c bytes ≡ true → IsNameFor c bytes
name_from_test codes.Path bytes t e = absurd t
name_from_test codes.Interface bytes t e = IsInterface-from_test bytes e
name_from_test codes.Member bytes t e = IsMember-from_test bytes e
name_from_test codes.Error bytes t e = IsInterface-from_test bytes e
name_from_test codes.Reply bytes t e = absurd t
name_from_test codes.Destination bytes t e = IsBusName-from_test bytes e
name_from_test codes.Sender bytes t e = IsBusName-from_test bytes e
name_from_test codes.Signature bytes t e = absurd t
name_from_test codes.Descriptors bytes t e = absurd t

pub test_from_name : (c : Code) (bytes : List ℕ) → IsNameFor c bytes → is_name c bytes ≡ true
test_from_name codes.Path bytes h = absurd h
test_from_name codes.Interface bytes h = is_interface-from_IsInterface bytes h
test_from_name codes.Member bytes h = is_member-from_IsMember bytes h
test_from_name codes.Error bytes h = is_interface-from_IsInterface bytes h
test_from_name codes.Reply bytes h = absurd h
test_from_name codes.Destination bytes h = is_bus_name-from_IsBusName bytes h
test_from_name codes.Sender bytes h = is_bus_name-from_IsBusName bytes h
test_from_name codes.Signature bytes h = absurd h
test_from_name codes.Descriptors bytes h = absurd h

abbrev read_as : List ℕ → Result (List ℕ) TextFault
read_as cs = Ok cs

-- its bytes are read as the text of themselves, and spell it
pub name_reads : (c : Code) (bytes : List ℕ) → IsNameFor c bytes → text_in bytes ≡ Ok bytes
name_reads c bytes h =
    let plain = name_is_plain c bytes h in
    whole bytes (bytes_before_zero bytes) (IsUtf8-from_ascii bytes plain.0) refl (omega (arith, plain.1)) ∙ ap read_as (chars-IsAscii bytes plain.0)

pub name_spells : (c : Code) (bytes : List ℕ) → IsNameFor c bytes → encode_utf8_all bytes ≡ bytes
name_spells c bytes h = encodes-IsAscii bytes (name_is_plain c bytes h).0
