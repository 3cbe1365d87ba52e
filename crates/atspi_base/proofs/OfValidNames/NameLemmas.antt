-- The rules of names and their tests say the same, and names are ASCII.
use Rattle.std.proofs.Common.{◌≡◌, ℕ, zero, suc, ◌<◌, List, [], ◌∷◌, length, Bool, true, false, not, ◌||◌, ◌==◌, refl, arith, if◌then◌else◌, inl, inr, ◌⊎◌}
use Rattle.std.specs.Prelude.{nat_le, IsTrue}
use Rattle.std.specs.Str.{IsAscii}
use Rattle.std.specs.Result.{IsErrOf}
use Rattle.std.specs.Prelude.{Err}
use Rattle.atspi_base.specs.declared.valid_names.fault.NameFault.TheVariants as faults
use Rattle.std.specs.Char.{is_ascii_alphanumeric, is_ascii_digit}
use Rattle.std.specs.Int.{is_in_range}
use Rattle.std.specs.List.{list_all, AllByRecursion}
use Rattle.std.proofs.lemmas.Bool.{and_parts, and_from, or_cases, or_right, leb-true, le-leb, eqb-true, eq-eqb}
use Rattle.atspi_base.specs.valid_names.Elements.{is_plain, may_begin, may_follow, is_element, in_front, parts_of, are_elements, are_two_or_more}
use Rattle.atspi_base.specs.valid_names.Names.{IsElement, AreElements, IsPath, IsInterface, IsMember, HasBusElements, IsBusName, is_path, is_interface, is_member, has_bus_elements, is_bus_name}
use Rattle.atspi_base.specs.declared.valid_names.elements.Form.{Form}
use Rattle.atspi_base.specs.declared.valid_names.elements.Form.TheVariants.{Path, Interface, WellKnown, Unique}

-- a test of each element, as a fact of each
each_from : (p : ℕ → Bool) (xs : List ℕ) → list_all p xs ≡ true → AllByRecursion (λ x. IsTrue (p x)) xs
each_from p [] e = tt
each_from p (x ∷ xs) e = let both = and_parts (p x) (list_all p xs) e in (both.0, each_from p xs both.1)

each_to : (p : ℕ → Bool) (xs : List ℕ) → AllByRecursion (λ x. IsTrue (p x)) xs → list_all p xs ≡ true
each_to p [] h = refl
each_to p (x ∷ xs) h = and_from (p x) (list_all p xs) h.0 (each_to p xs h.1)

element_from : (form : Form) (bytes : List ℕ) → is_element form bytes ≡ true → IsElement form bytes
element_from form [] e = absurd cc
element_from form (b ∷ bytes) e = let both = and_parts (may_begin form b) (list_all (may_follow form) bytes) e in (both.0, each_from (may_follow form) bytes both.1)

element_to : (form : Form) (bytes : List ℕ) → IsElement form bytes → is_element form bytes ≡ true
element_to form [] h = absurd h
element_to form (b ∷ bytes) h = and_from (may_begin form b) (list_all (may_follow form) bytes) h.0 (each_to (may_follow form) bytes h.1)

elements_from : (form : Form) (parts : List (List ℕ)) → list_all (is_element form) parts ≡ true → AllByRecursion (IsElement form) parts
elements_from form [] e = tt
elements_from form (part ∷ parts) e = let both = and_parts (is_element form part) (list_all (is_element form) parts) e in (element_from form part both.0, elements_from form parts both.1)

elements_to : (form : Form) (parts : List (List ℕ)) → AllByRecursion (IsElement form) parts → list_all (is_element form) parts ≡ true
elements_to form [] h = refl
elements_to form (part ∷ parts) h = and_from (is_element form part) (list_all (is_element form) parts) (element_to form part h.0) (elements_to form parts h.1)

many_from : (form : Form) (bytes : List ℕ) → are_two_or_more form 46 bytes ≡ true → AreElements form bytes
unfolding are_two_or_more are_elements
many_from form bytes e =
    let both = and_parts (are_elements form 46 bytes) (nat_le 2 (length (parts_of 46 bytes))) e in
    record { each = elements_from form (parts_of 46 bytes) both.0; many = leb-true 2 (length (parts_of 46 bytes)) both.1 }

many_to : (form : Form) (bytes : List ℕ) → AreElements form bytes → are_two_or_more form 46 bytes ≡ true
unfolding are_two_or_more are_elements
many_to form bytes h = and_from (are_elements form 46 bytes) (nat_le 2 (length (parts_of 46 bytes))) (elements_to form (parts_of 46 bytes) h.each) (le-leb 2 (length (parts_of 46 bytes)) h.many)

-- paths
rest_from : (bytes : List ℕ) → (length bytes == 0 || are_elements Path 47 bytes) ≡ true → (bytes ≡ []) ⊎ AllByRecursion (IsElement Path) (parts_of 47 bytes)
unfolding are_elements
rest_from [] e = inl refl
rest_from (b ∷ bytes) e = by (or_cases (length (b ∷ bytes) == 0) (are_elements Path 47 (b ∷ bytes)) e)
  where
    by : ((length (b ∷ bytes) == 0) ≡ true) ⊎ (are_elements Path 47 (b ∷ bytes) ≡ true) → ((b ∷ bytes) ≡ []) ⊎ AllByRecursion (IsElement Path) (parts_of 47 (b ∷ bytes))
    by (inl empty) = absurd (omega (arith, eqb-true (length (b ∷ bytes)) 0 empty))
    by (inr each) = inr (elements_from Path (parts_of 47 (b ∷ bytes)) each)

rest_to : (bytes : List ℕ) → (bytes ≡ []) ⊎ AllByRecursion (IsElement Path) (parts_of 47 bytes) → (length bytes == 0 || are_elements Path 47 bytes) ≡ true
unfolding are_elements
rest_to [] h = refl
rest_to (b ∷ bytes) (inl e) = absurd cc
rest_to (b ∷ bytes) (inr h) = or_right (length (b ∷ bytes) == 0) (are_elements Path 47 (b ∷ bytes)) (elements_to Path (parts_of 47 (b ∷ bytes)) h)

pub IsPath-from_test : (bytes : List ℕ) → is_path bytes ≡ true → IsPath bytes
unfolding is_path
IsPath-from_test [] e = absurd cc
IsPath-from_test (b ∷ bytes) e =
    let both = and_parts (b == 47) (length bytes == 0 || are_elements Path 47 bytes) e in
    (eqb-true b 47 both.0, rest_from bytes both.1)

pub is_path-from_IsPath : (bytes : List ℕ) → IsPath bytes → is_path bytes ≡ true
unfolding is_path
is_path-from_IsPath [] h = absurd h
is_path-from_IsPath (b ∷ bytes) h = and_from (b == 47) (length bytes == 0 || are_elements Path 47 bytes) (eq-eqb b 47 h.0) (rest_to bytes h.1)

-- interfaces and members
pub IsInterface-from_test : (bytes : List ℕ) → is_interface bytes ≡ true → IsInterface bytes
unfolding is_interface
IsInterface-from_test bytes e =
    let both = and_parts (are_two_or_more Interface 46 bytes) (nat_le (length bytes) 255) e in
    record { elements = many_from Interface bytes both.0; short = leb-true (length bytes) 255 both.1 }

pub is_interface-from_IsInterface : (bytes : List ℕ) → IsInterface bytes → is_interface bytes ≡ true
unfolding is_interface
is_interface-from_IsInterface bytes h = and_from (are_two_or_more Interface 46 bytes) (nat_le (length bytes) 255) (many_to Interface bytes h.elements) (le-leb (length bytes) 255 h.short)

pub IsMember-from_test : (bytes : List ℕ) → is_member bytes ≡ true → IsMember bytes
unfolding is_member
IsMember-from_test bytes e =
    let both = and_parts (is_element Interface bytes) (nat_le (length bytes) 255) e in
    record { element = element_from Interface bytes both.0; short = leb-true (length bytes) 255 both.1 }

pub is_member-from_IsMember : (bytes : List ℕ) → IsMember bytes → is_member bytes ≡ true
unfolding is_member
is_member-from_IsMember bytes h = and_from (is_element Interface bytes) (nat_le (length bytes) 255) (element_to Interface bytes h.element) (le-leb (length bytes) 255 h.short)

-- bus names; no well-known one begins with a :
colon_begins : (bytes : List ℕ) → AreElements WellKnown (58 ∷ bytes) → ⊥
unfolding parts_of
colon_begins bytes h = first_part (parts_of 46 bytes) h.each
  where
    first_part : (parts : List (List ℕ)) → AllByRecursion (IsElement WellKnown) (in_front 58 parts) → ⊥
    first_part [] each = absurd (cc (each.0.0))
    first_part (part ∷ parts) each = absurd (cc (each.0.0))

bus_from : (bytes : List ℕ) → has_bus_elements bytes ≡ true → HasBusElements bytes
bus_from [] e = absurd cc
bus_from (b ∷ bytes) e = by (b == 58) refl e
  where
    by : (t : Bool) → (b == 58) ≡ t → (if t then are_two_or_more Unique 46 bytes else are_two_or_more WellKnown 46 (b ∷ bytes)) ≡ true → HasBusElements (b ∷ bytes)
    by true t e = inl (eqb-true b 58 t, many_from Unique bytes e)
    by false t e = inr (many_from WellKnown (b ∷ bytes) e)

bus_to : (bytes : List ℕ) → HasBusElements bytes → has_bus_elements bytes ≡ true
bus_to [] h = absurd h
bus_to (b ∷ bytes) (inl h) = rw (eq-eqb b 58 h.0) (many_to Unique bytes h.1)
bus_to (b ∷ bytes) (inr h) = by (b == 58) refl
  where
    by : (t : Bool) → (b == 58) ≡ t → (if t then are_two_or_more Unique 46 bytes else are_two_or_more WellKnown 46 (b ∷ bytes)) ≡ true
    by true t = let is : b ≡ 58 = eqb-true b 58 t in absurd (colon_begins bytes (rw is at h))
    by false t = many_to WellKnown (b ∷ bytes) h

pub IsBusName-from_test : (bytes : List ℕ) → is_bus_name bytes ≡ true → IsBusName bytes
unfolding is_bus_name
IsBusName-from_test bytes e =
    let both = and_parts (has_bus_elements bytes) (nat_le (length bytes) 255) e in
    record { elements = bus_from bytes both.0; short = leb-true (length bytes) 255 both.1 }

pub is_bus_name-from_IsBusName : (bytes : List ℕ) → IsBusName bytes → is_bus_name bytes ≡ true
unfolding is_bus_name
is_bus_name-from_IsBusName bytes h = and_from (has_bus_elements bytes) (nat_le (length bytes) 255) (bus_to bytes h.elements) (le-leb (length bytes) 255 h.short)

-- names are ASCII
range_below : (low high b : ℕ) → high < 128 → is_in_range low high b ≡ true → b < 128
range_below low high b small e = let both = and_parts (nat_le low b) (nat_le b high) e in omega (arith, leb-true b high both.1)

plain_below : (b : ℕ) → is_plain b ≡ true → b < 128
plain_below b e = by (or_cases (is_ascii_alphanumeric b) (b == 95) e)
  where
    digit_or_upper : (is_in_range 48 57 b ≡ true) ⊎ (is_in_range 65 90 b ≡ true) → b < 128
    digit_or_upper (inl e) = range_below 48 57 b (omega arith) e
    digit_or_upper (inr e) = range_below 65 90 b (omega arith) e

    letter : ((is_in_range 48 57 b || is_in_range 65 90 b) ≡ true) ⊎ (is_in_range 97 122 b ≡ true) → b < 128
    letter (inl e) = digit_or_upper (or_cases (is_in_range 48 57 b) (is_in_range 65 90 b) e)
    letter (inr e) = range_below 97 122 b (omega arith) e

    by : (is_ascii_alphanumeric b ≡ true) ⊎ ((b == 95) ≡ true) → b < 128
    by (inl e) = letter (or_cases (is_in_range 48 57 b || is_in_range 65 90 b) (is_in_range 97 122 b) e)
    by (inr e) = omega (arith, eqb-true b 95 e)

hyphen_below : (b : ℕ) → (is_plain b || b == 45) ≡ true → b < 128
hyphen_below b e = by (or_cases (is_plain b) (b == 45) e)
  where
    by : (is_plain b ≡ true) ⊎ ((b == 45) ≡ true) → b < 128
    by (inl e) = plain_below b e
    by (inr e) = omega (arith, eqb-true b 45 e)

follow_below : (form : Form) (b : ℕ) → may_follow form b ≡ true → b < 128
follow_below Path b e = plain_below b e
follow_below Interface b e = plain_below b e
follow_below WellKnown b e = hyphen_below b e
follow_below Unique b e = hyphen_below b e

begin_follows : (form : Form) (b : ℕ) → may_begin form b ≡ true → may_follow form b ≡ true
begin_follows Path b e = e
begin_follows Interface b e = (and_parts (is_plain b) (not (is_ascii_digit b)) e).0
begin_follows WellKnown b e = (and_parts (is_plain b || b == 45) (not (is_ascii_digit b)) e).0
begin_follows Unique b e = e

-- the first of the parts goes on, and the others are elements
Follow : Form → List (List ℕ) → Type 0
Follow form [] = Unit {0}
Follow form (part ∷ parts) = AllByRecursion (λ c. IsTrue (may_follow form c)) part × AllByRecursion (IsElement form) parts

follow_element : (form : Form) (part : List ℕ) → IsElement form part → AllByRecursion (λ c. IsTrue (may_follow form c)) part
follow_element form [] h = absurd h
follow_element form (b ∷ part) h = (begin_follows form b h.0, h.1)

follow_elements : (form : Form) (parts : List (List ℕ)) → AllByRecursion (IsElement form) parts → Follow form parts
unfolding Follow
follow_elements form [] h = tt
follow_elements form (part ∷ parts) h = (follow_element form part h.0, h.1)

follow_front : (form : Form) (b : ℕ) (parts : List (List ℕ)) → Follow form (in_front b parts) → (b < 128) × Follow form parts
unfolding Follow
follow_front form b [] h = (follow_below form b h.0.0, tt)
follow_front form b (part ∷ parts) h = (follow_below form b h.0.0, (h.0.1, h.1))

ascii_parts : (form : Form) (separator : ℕ) (bytes : List ℕ) → separator < 128 → Follow form (parts_of separator bytes) → AllByRecursion (λ b. b < 128) bytes
unfolding Follow parts_of
ascii_parts form separator [] small h = tt
ascii_parts form separator (b ∷ bytes) small h = by (b == separator) refl h (ascii_parts form separator bytes small)
  where
    by : (t : Bool) → (b == separator) ≡ t → Follow form (if t then [] ∷ parts_of separator bytes else in_front b (parts_of separator bytes))
        → (Follow form (parts_of separator bytes) → AllByRecursion (λ c. c < 128) bytes) → AllByRecursion (λ c. c < 128) (b ∷ bytes)
    by true t h rest = (omega (arith, eqb-true b separator t), rest (follow_elements form (parts_of separator bytes) h.1))
    by false t h rest = let both = follow_front form b (parts_of separator bytes) h in (both.0, rest both.1)

ascii_at : (bytes : List ℕ) → AllByRecursion (λ b. b < 128) bytes → IsAscii bytes
ascii_at [] h i = omega arith
ascii_at (b ∷ bytes) h zero = h.0
ascii_at (b ∷ bytes) h (suc i) = ascii_at bytes h.1 i

ascii_elements : (form : Form) (separator : ℕ) (bytes : List ℕ) → separator < 128 → AllByRecursion (IsElement form) (parts_of separator bytes) → AllByRecursion (λ b. b < 128) bytes
ascii_elements form separator bytes small h = ascii_parts form separator bytes small (follow_elements form (parts_of separator bytes) h)

ascii_follow : (form : Form) (bytes : List ℕ) → AllByRecursion (λ c. IsTrue (may_follow form c)) bytes → AllByRecursion (λ b. b < 128) bytes
ascii_follow form [] h = tt
ascii_follow form (b ∷ bytes) h = (follow_below form b h.0, ascii_follow form bytes h.1)

pub IsAscii-IsPath : (bytes : List ℕ) → IsPath bytes → IsAscii bytes
IsAscii-IsPath [] h = absurd h
IsAscii-IsPath (b ∷ bytes) h = ascii_at (b ∷ bytes) (omega (arith, h.0), by bytes h.1)
  where
    by : (bytes : List ℕ) → (bytes ≡ []) ⊎ AllByRecursion (IsElement Path) (parts_of 47 bytes) → AllByRecursion (λ c. c < 128) bytes
    by [] h = tt
    by (b ∷ bytes) (inl e) = absurd cc
    by (b ∷ bytes) (inr h) = ascii_elements Path 47 (b ∷ bytes) (omega arith) h

pub IsAscii-IsInterface : (bytes : List ℕ) → IsInterface bytes → IsAscii bytes
IsAscii-IsInterface bytes h = ascii_at bytes (ascii_elements Interface 46 bytes (omega arith) h.elements.each)

pub IsAscii-IsMember : (bytes : List ℕ) → IsMember bytes → IsAscii bytes
IsAscii-IsMember bytes h = ascii_at bytes (ascii_follow Interface bytes (follow_element Interface bytes h.element))

pub IsAscii-IsBusName : (bytes : List ℕ) → IsBusName bytes → IsAscii bytes
IsAscii-IsBusName bytes h = ascii_at bytes (by bytes h.elements)
  where
    by : (bytes : List ℕ) → HasBusElements bytes → AllByRecursion (λ c. c < 128) bytes
    by [] h = absurd h
    by (b ∷ bytes) (inl h) = (omega (arith, h.0), ascii_elements Unique 46 bytes (omega arith) h.1.each)
    by (b ∷ bytes) (inr h) = ascii_elements WellKnown 46 (b ∷ bytes) (omega arith) h.each

-- want of memory is no refusal of the form
pub no_memory_is_no_form : {T : Type 0} → IsErrOf {T = T} (Err faults.NoMemory) faults.Form → ⊥
no_memory_is_no_form h = cc
