-- Elements, by one walk over the bytes.
use Rattle.std.proofs.Common.{get_or, drop, add-one, drop-cons, ◌≡◌, ℕ, ◌+◌, ◌<◌, ◌≤◌, List, [], ◌∷◌, length, Bool, true, false, not, ◌&&◌, ◌==◌, refl, ap, ◌∙◌, arith, if◌then◌else◌}
use Rattle.std.specs.Prelude.{nat_le}
use Rattle.std.proofs.lemmas.Bool.{le-leb}
use Rattle.std.proofs.lemmas.List.{drop_all}
use Rattle.std.specs.List.{list_all, list_any}
use Rattle.atspi_base.specs.valid_names.Elements.{may_begin, may_follow, may_come, is_element, in_front, parts_of, are_elements}
use Rattle.atspi_base.specs.declared.valid_names.elements.Form.{Form}

-- whether the bytes go on to the end as elements, inside one or before the first byte of the next
unfoldable pub goes_on : Form → ℕ → Bool → List ℕ → Bool
goes_on form separator inside [] = inside
goes_on form separator inside (b ∷ bytes) = may_come form separator inside b && goes_on form separator (not (b == separator)) bytes

-- the same of the parts, the first of which goes on with what came before
goes_on_in : Form → Bool → List (List ℕ) → Bool
goes_on_in form inside [] = true
goes_on_in form inside (part ∷ parts) = (if inside then list_all (may_follow form) part else is_element form part) && list_all (is_element form) parts

goes_on_in-false : (form : Form) (parts : List (List ℕ)) → goes_on_in form false parts ≡ list_all (is_element form) parts
unfolding goes_on_in
goes_on_in-false form [] = refl
goes_on_in-false form (part ∷ parts) = refl

and_again : (x y z : Bool) → (x && (y && z)) ≡ ((x && y) && z)
and_again true y z = refl
and_again false y z = refl

chosen_itself : (t : Bool) → t ≡ (if t then true else false)
chosen_itself true = refl
chosen_itself false = refl

goes_on_in-in_front : (form : Form) (inside : Bool) (b : ℕ) (parts : List (List ℕ)) → ((if inside then may_follow form b else may_begin form b) && goes_on_in form true parts) ≡ goes_on_in form inside (in_front b parts)
unfolding goes_on_in
goes_on_in-in_front form true b [] = and_again (may_follow form b) true true
goes_on_in-in_front form false b [] = and_again (may_begin form b) true true
goes_on_in-in_front form true b (part ∷ parts) = and_again (may_follow form b) (list_all (may_follow form) part) (list_all (is_element form) parts)
goes_on_in-in_front form false b (part ∷ parts) = and_again (may_begin form b) (list_all (may_follow form) part) (list_all (is_element form) parts)

-- the step of the walk, where the byte is no separator and where it is
come_false : (form : Form) (separator : ℕ) (inside : Bool) (b : ℕ) (rest : Bool) → (b == separator) ≡ false → (may_come form separator inside b && rest) ≡ ((if inside then may_follow form b else may_begin form b) && rest)
come_false form separator inside b rest e = rw e refl

come_true : (form : Form) (separator : ℕ) (inside : Bool) (b : ℕ) (rest : Bool) → (b == separator) ≡ true → (may_come form separator inside b && rest) ≡ (inside && rest)
come_true form separator inside b rest e = rw e refl

-- the walk tells whether the parts are elements
goes_on-parts : (form : Form) (separator : ℕ) (inside : Bool) (bytes : List ℕ) → goes_on form separator inside bytes ≡ goes_on_in form inside (parts_of separator bytes)
unfolding goes_on goes_on_in parts_of
goes_on-parts form separator false [] = refl
goes_on-parts form separator true [] = refl
goes_on-parts form separator inside (b ∷ bytes) = by (b == separator) refl (goes_on-parts form separator false bytes) (goes_on-parts form separator true bytes)
  where
    by : (t : Bool) → (b == separator) ≡ t → goes_on form separator false bytes ≡ goes_on_in form false (parts_of separator bytes) → goes_on form separator true bytes ≡ goes_on_in form true (parts_of separator bytes) → goes_on form separator inside (b ∷ bytes) ≡ goes_on_in form inside (parts_of separator (b ∷ bytes))
    by true e outer inner =
        come_true form separator inside b _ e ∙ rw (e, outer, goes_on_in-false form (parts_of separator bytes)) (ap (λ t. t && list_all (is_element form) (parts_of separator bytes)) (chosen_itself inside))
    by false e outer inner =
        come_false form separator inside b _ e ∙ rw (e, inner) (goes_on_in-in_front form inside b (parts_of separator bytes))

pub goes_on-are_elements : (form : Form) (separator : ℕ) (bytes : List ℕ) → goes_on form separator false bytes ≡ are_elements form separator bytes
unfolding are_elements
goes_on-are_elements form separator bytes = goes_on-parts form separator false bytes ∙ goes_on_in-false form (parts_of separator bytes)

-- two parts or more, where there is a separator
length-in_front : (b : ℕ) (parts : List (List ℕ)) → 0 < length parts → length (in_front b parts) ≡ length parts
length-in_front b [] positive = absurd (omega arith)
length-in_front b (part ∷ parts) positive = refl

some_part : (separator : ℕ) (bytes : List ℕ) → 0 < length (parts_of separator bytes)
unfolding parts_of
some_part separator [] = omega arith
some_part separator (b ∷ bytes) = by (b == separator) refl (some_part separator bytes)
  where
    by : (t : Bool) → (b == separator) ≡ t → 0 < length (parts_of separator bytes) → 0 < length (parts_of separator (b ∷ bytes))
    by true e before = rw e (omega arith)
    by false e before = rw (e, length-in_front b (parts_of separator bytes) before) before

pub many_parts : (separator : ℕ) (bytes : List ℕ) → nat_le 2 (length (parts_of separator bytes)) ≡ list_any (λ b. b == separator) bytes
unfolding parts_of
many_parts separator [] = refl
many_parts separator (b ∷ bytes) = by (b == separator) refl (many_parts separator bytes)
  where
    by : (t : Bool) → (b == separator) ≡ t → nat_le 2 (length (parts_of separator bytes)) ≡ list_any (λ c. c == separator) bytes → nat_le 2 (length (parts_of separator (b ∷ bytes))) ≡ list_any (λ c. c == separator) (b ∷ bytes)
    by true e before = rw (e) (le-leb 2 _ (omega (arith, some_part separator bytes)))
    by false e before = rw (e, length-in_front b (parts_of separator bytes) (some_part separator bytes)) before

-- one byte further in the walk
pub goes_on-drop : (form : Form) (separator : ℕ) (inside : Bool) (bytes : List ℕ) (i : ℕ) → i < length bytes → goes_on form separator inside (drop i bytes) ≡ (may_come form separator inside (get_or bytes i 0) && goes_on form separator (not (get_or bytes i 0 == separator)) (drop (i + 1) bytes))
unfolding goes_on
goes_on-drop form separator inside bytes i lt = rw (add-one, drop-cons bytes i 0) refl

pub goes_on-stop : (form : Form) (separator : ℕ) (inside : Bool) (bytes : List ℕ) (i : ℕ) → i < length bytes → may_come form separator inside (get_or bytes i 0) ≡ false → goes_on form separator inside (drop i bytes) ≡ false
goes_on-stop form separator inside bytes i lt e = goes_on-drop form separator inside bytes i lt ∙ rw e refl

pub goes_on-past : (form : Form) (separator : ℕ) (inside : Bool) (bytes : List ℕ) (i : ℕ) → i < length bytes → may_come form separator inside (get_or bytes i 0) ≡ true → goes_on form separator inside (drop i bytes) ≡ goes_on form separator (not (get_or bytes i 0 == separator)) (drop (i + 1) bytes)
goes_on-past form separator inside bytes i lt e = goes_on-drop form separator inside bytes i lt ∙ rw e refl

pub goes_on-over : (form : Form) (separator : ℕ) (inside : Bool) (bytes : List ℕ) (i : ℕ) → length bytes ≤ i → goes_on form separator inside (drop i bytes) ≡ inside
unfolding goes_on
goes_on-over form separator inside bytes i le = rw (drop_all i bytes le) refl

-- an element is its first byte and those that follow
pub is_element-cons : (form : Form) (bytes : List ℕ) → 0 < length bytes → is_element form bytes ≡ (may_begin form (get_or bytes 0 0) && list_all (may_follow form) (drop 1 bytes))
is_element-cons form [] positive = absurd (omega arith)
is_element-cons form (b ∷ bytes) positive = refl

pub is_element-nil : (form : Form) (bytes : List ℕ) → length bytes ≡ 0 → is_element form bytes ≡ false
is_element-nil form [] empty = refl
is_element-nil form (b ∷ bytes) empty = absurd (omega arith)
