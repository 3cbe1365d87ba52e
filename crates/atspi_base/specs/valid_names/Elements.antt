-- The elements that names are made of (D-Bus Specification, "Valid Object Paths" and "Valid Names").
use Rattle.std.specs.Prelude.{ℕ, Bool, false, not, ◌&&◌, ◌||◌, ◌==◌, nat_le, length, List, [], ◌∷◌, if◌then◌else◌}
use Rattle.std.specs.Char.{is_ascii_alphanumeric, is_ascii_digit}
use Rattle.std.specs.List.{list_all}
use Rattle.atspi_base.specs.declared.valid_names.elements.Form.{Form}
use Rattle.atspi_base.specs.declared.valid_names.elements.Form.TheVariants.{Path, Interface, WellKnown, Unique}

-- a letter, a digit or _
abbrev pub is_plain : ℕ → Bool
is_plain b = is_ascii_alphanumeric b || b == 95

-- whether the byte may stand in an element; bus names also allow -
abbrev pub may_follow : Form → ℕ → Bool
may_follow Path b = is_plain b
may_follow Interface b = is_plain b
may_follow WellKnown b = is_plain b || b == 45
may_follow Unique b = is_plain b || b == 45

-- whether an element may begin with the byte; those of interfaces and of well-known bus names begin with no digit
abbrev pub may_begin : Form → ℕ → Bool
may_begin Path b = may_follow Path b
may_begin Interface b = may_follow Interface b && not (is_ascii_digit b)
may_begin WellKnown b = may_follow WellKnown b && not (is_ascii_digit b)
may_begin Unique b = may_follow Unique b

-- whether the byte may come next, inside an element or before the first byte of one
abbrev pub may_come : Form → ℕ → Bool → ℕ → Bool
may_come form separator inside b = if b == separator then inside else if inside then may_follow form b
    else may_begin form b

-- an element has a byte or more
abbrev pub is_element : Form → List ℕ → Bool
is_element form [] = false
is_element form (b ∷ bytes) = may_begin form b && list_all (may_follow form) bytes

-- a byte before the first of the parts
abbrev pub in_front : ℕ → List (List ℕ) → List (List ℕ)
in_front b [] = (b ∷ []) ∷ []
in_front b (part ∷ parts) = (b ∷ part) ∷ parts

-- the parts round the separators, one more than there are separators
unfoldable pub parts_of : ℕ → List ℕ → List (List ℕ)
parts_of separator [] = [] ∷ []
parts_of separator (b ∷ bytes) = if b == separator then [] ∷ parts_of separator bytes
    else in_front b (parts_of separator bytes)

-- whether the bytes are elements with a separator between any two
unfoldable pub are_elements : Form → ℕ → List ℕ → Bool
are_elements form separator bytes = list_all (is_element form) (parts_of separator bytes)

-- the same, with two elements or more
unfoldable pub are_two_or_more : Form → ℕ → List ℕ → Bool
are_two_or_more form separator bytes = are_elements form separator bytes && nat_le 2 (length (parts_of separator bytes))
