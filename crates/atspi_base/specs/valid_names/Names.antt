-- The rules of names (D-Bus Specification, "Valid Object Paths" and "Valid Names"). A name is seen as the list of its
-- bytes, which are also its characters, since each is ASCII.
use Rattle.std.specs.Prelude.{◌≡◌, ◌≤◌, ℕ, Bool, false, ◌&&◌, ◌||◌, ◌==◌, nat_le, List, [], ◌∷◌, length, if◌then◌else◌}
use Rattle.std.specs.Prelude.{IsTrue, ◌⊎◌, Result, Ok, Err}
use Rattle.std.specs.List.{AllByRecursion}
use Rattle.atspi_base.specs.valid_names.Elements.{parts_of, is_element, are_elements, are_two_or_more, may_begin}
use Rattle.atspi_base.specs.valid_names.Elements.{may_follow}
use Rattle.atspi_base.specs.declared.valid_names.elements.Form.{Form}
use Rattle.atspi_base.specs.declared.valid_names.elements.Form.TheVariants.{Path, Interface, WellKnown, Unique}
use Rattle.atspi_base.specs.declared.valid_names.fault.NameFault.{NameFault}
use Rattle.atspi_base.specs.declared.valid_names.fault.NameFault.TheVariants as faults

-- an element: a byte that may begin it, and any number that may follow
abbrev pub IsElement : Form → List ℕ → Type 0
IsElement form [] = ⊥
IsElement form (b ∷ bytes) = IsTrue (may_begin form b) × AllByRecursion (λ c. IsTrue (may_follow form c)) bytes

-- what lies between the dots of an interface or a bus name is two or more elements
pub record AreElements (form : Form) (bytes : List ℕ) : Type 0 where
  pub each : AllByRecursion (IsElement form) (parts_of 46 bytes)
  pub many : 2 ≤ length (parts_of 46 bytes)

-- a path is / alone, or elements with one / before each
abbrev pub IsPath : List ℕ → Type 0
IsPath [] = ⊥
IsPath (b ∷ bytes) = (b ≡ 47) × ((bytes ≡ []) ⊎ AllByRecursion (IsElement Path) (parts_of 47 bytes))

-- the name of an interface or of an error
pub record IsInterface (bytes : List ℕ) : Type 0 where
  pub elements : AreElements Interface bytes
  pub short : length bytes ≤ 255

-- the name of a method or a signal
pub record IsMember (bytes : List ℕ) : Type 0 where
  pub element : IsElement Interface bytes
  pub short : length bytes ≤ 255

-- the elements of a bus name; those of a unique one stand behind a :
abbrev pub HasBusElements : List ℕ → Type 0
HasBusElements [] = ⊥
HasBusElements (b ∷ bytes) = ((b ≡ 58) × AreElements Unique bytes) ⊎ AreElements WellKnown (b ∷ bytes)

pub record IsBusName (bytes : List ℕ) : Type 0 where
  pub elements : HasBusElements bytes
  pub short : length bytes ≤ 255

-- a unique bus name begins with :
abbrev pub is_unique_name : List ℕ → Bool
is_unique_name [] = false
is_unique_name (b ∷ bytes) = b == 58

-- the same four rules as tests
unfoldable pub is_path : List ℕ → Bool
is_path [] = false
is_path (b ∷ bytes) = b == 47 && (length bytes == 0 || are_elements Path 47 bytes)

unfoldable pub is_interface : List ℕ → Bool
is_interface bytes = are_two_or_more Interface 46 bytes && nat_le (length bytes) 255

unfoldable pub is_member : List ℕ → Bool
is_member bytes = is_element Interface bytes && nat_le (length bytes) 255

abbrev pub has_bus_elements : List ℕ → Bool
has_bus_elements [] = false
has_bus_elements (b ∷ bytes) = if b == 58 then are_two_or_more Unique 46 bytes
    else are_two_or_more WellKnown 46 (b ∷ bytes)

unfoldable pub is_bus_name : List ℕ → Bool
is_bus_name bytes = has_bus_elements bytes && nat_le (length bytes) 255

-- what reading bytes as a name of a rule gives: the bytes, or Form where the rule's test refuses them
abbrev pub ReadsName : (List ℕ → Bool) → Result (List ℕ) NameFault → List ℕ → Type 0
ReadsName rule (Ok name) bytes = (name ≡ bytes) × IsTrue (rule bytes)
ReadsName rule (Err faults.Form) bytes = rule bytes ≡ false
ReadsName rule (Err faults.NoMemory) bytes = Unit {0}
