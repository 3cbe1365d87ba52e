-- The walk of the tables is the walk over elements.
use Rattle.std.proofs.Common.{◌≡◌, ℕ, ◌+◌, ◌<◌, ◌≤◌, List, length, get_or, drop, Bool, true, false, not, ◌||◌, ◌==◌, refl, sym, ap, subst, ◌∙◌, arith, if◌then◌else◌, map}
use Rattle.std.specs.Char.{is_ascii_digit}
use Rattle.std.specs.List.{range_with_len}
use Rattle.std.proofs.lemmas.Bool.{eqb-true, both_ways}
use Rattle.std.proofs.lemmas.List.FromFn.{get_or-map-range_with_len}
use Rattle.atspi_base.specs.valid_names.Elements.{is_plain, may_come}
use Rattle.atspi_base.specs.valid_names.inner.Walks.{byte_class, separator_of, next_states}
use Rattle.atspi_base.specs.declared.valid_names.elements.Form.{Form}
use Rattle.atspi_base.specs.declared.valid_names.elements.Form.TheVariants.{Path, Interface, WellKnown, Unique}
use Rattle.atspi_base.proofs.OfValidNames.ElementLemmas.{goes_on, goes_on-stop, goes_on-past, goes_on-over}

-- what the tests say of a byte of each class
pub record IsClass (b class : ℕ) (plain digit dash dot slash : Bool) : Type 0 where
  pub class_is : byte_class b ≡ class
  pub plain_is : is_plain b ≡ plain
  pub digit_is : is_ascii_digit b ≡ digit
  pub dash_is : (b == 45) ≡ dash
  pub dot_is : (b == 46) ≡ dot
  pub slash_is : (b == 47) ≡ slash

pub data HasClass (b : ℕ) : Type 0 where
  letter : IsClass b 1 true false false false false → HasClass b
  digit : IsClass b 2 true true false false false → HasClass b
  dash : IsClass b 3 false false true false false → HasClass b
  dot : IsClass b 4 false false false true false → HasClass b
  slash : IsClass b 5 false false false false true → HasClass b
  other : IsClass b 0 false false false false false → HasClass b

-- no byte that is one of the three is plain, nor another of them
plain_is_none : (b n : ℕ) → is_plain b ≡ true → is_plain n ≡ false → (b == n) ≡ false
plain_is_none b n p q = by (b == n) refl
  where
    by : (t : Bool) → (b == n) ≡ t → t ≡ false
    by false e = refl
    by true e = absurd (both_ways (is_plain n) q (ap is_plain (sym (eqb-true b n e)) ∙ p))

all_refl_slash : HasClass 47
all_refl_slash = slash (record { class_is = refl; plain_is = refl; digit_is = refl; dash_is = refl; dot_is = refl; slash_is = refl })

all_refl_dot : HasClass 46
all_refl_dot = dot (record { class_is = refl; plain_is = refl; digit_is = refl; dash_is = refl; dot_is = refl; slash_is = refl })

all_refl_dash : HasClass 45
all_refl_dash = dash (record { class_is = refl; plain_is = refl; digit_is = refl; dash_is = refl; dot_is = refl; slash_is = refl })

-- a digit is plain
no_digit : (d u l w : Bool) → (((d || u) || l) || w) ≡ false → d ≡ false
no_digit false u l w e = refl
no_digit true u l w e = absurd cc

class_other : (b : ℕ) → is_plain b ≡ false → (b == 45) ≡ false → (b == 46) ≡ false → (b == 47) ≡ false → byte_class b ≡ 0
class_other b p d o s = rw (p, d, o, s) refl

class_digit : (b : ℕ) → is_plain b ≡ true → is_ascii_digit b ≡ true → byte_class b ≡ 2
class_digit b p d = rw (p, d) refl

class_letter : (b : ℕ) → is_plain b ≡ true → is_ascii_digit b ≡ false → byte_class b ≡ 1
class_letter b p d = rw (p, d) refl

pub has_class : (b : ℕ) → HasClass b
has_class b = by_plain (is_plain b) refl
  where
    by_slash : (t : Bool) → (b == 47) ≡ t → is_plain b ≡ false → (b == 45) ≡ false → (b == 46) ≡ false → HasClass b
    by_slash true e p d o = subst HasClass (sym (eqb-true b 47 e)) all_refl_slash
    by_slash false e p d o = other (record { class_is = class_other b p d o e; plain_is = p; digit_is = no_digit (is_ascii_digit b) _ _ _ p; dash_is = d; dot_is = o; slash_is = e })

    by_dot : (t : Bool) → (b == 46) ≡ t → is_plain b ≡ false → (b == 45) ≡ false → HasClass b
    by_dot true e p d = subst HasClass (sym (eqb-true b 46 e)) all_refl_dot
    by_dot false e p d = by_slash (b == 47) refl p d e

    by_dash : (t : Bool) → (b == 45) ≡ t → is_plain b ≡ false → HasClass b
    by_dash true e p = subst HasClass (sym (eqb-true b 45 e)) all_refl_dash
    by_dash false e p = by_dot (b == 46) refl p e

    by_digit : (t : Bool) → is_ascii_digit b ≡ t → is_plain b ≡ true → HasClass b
    by_digit true e p = digit (record { class_is = class_digit b p e; plain_is = p; digit_is = e; dash_is = plain_is_none b 45 p refl; dot_is = plain_is_none b 46 p refl; slash_is = plain_is_none b 47 p refl })
    by_digit false e p = letter (record { class_is = class_letter b p e; plain_is = p; digit_is = e; dash_is = plain_is_none b 45 p refl; dot_is = plain_is_none b 46 p refl; slash_is = plain_is_none b 47 p refl })

    by_plain : (t : Bool) → is_plain b ≡ t → HasClass b
    by_plain true e = by_digit (is_ascii_digit b) refl e
    by_plain false e = by_dash (b == 45) refl e

pub class_small : (b : ℕ) → byte_class b < 6
class_small b = by (has_class b)
  where
    by : HasClass b → byte_class b < 6
    by (letter h) = rw h.class_is (omega arith)
    by (digit h) = rw h.class_is (omega arith)
    by (dash h) = rw h.class_is (omega arith)
    by (dot h) = rw h.class_is (omega arith)
    by (slash h) = rw h.class_is (omega arith)
    by (other h) = rw h.class_is (omega arith)

-- the table of classes
pub classes_are : (table : List ℕ) (b : ℕ) → b < 256 → table ≡ map byte_class (range_with_len 0 256) → get_or table b 0 ≡ byte_class b
classes_are table b lt is = ap (λ (t : List ℕ). get_or t b 0) is ∙ get_or-map-range_with_len byte_class 0 256 b b 0 lt (omega arith)

-- where the walk stands
abbrev pub state_of : Bool → ℕ
state_of inside = if inside then 8 else 0

-- one byte in the tables
pub steps : (form : Form) (inside : Bool) (b : ℕ) → get_or (next_states form) (state_of inside + byte_class b) 0 ≡ (if may_come form (separator_of form) inside b then state_of (not (b == separator_of form)) else 16)
steps form inside b = by form inside (has_class b)
  where
    by : (form : Form) (inside : Bool) → HasClass b → get_or (next_states form) (state_of inside + byte_class b) 0 ≡ (if may_come form (separator_of form) inside b then state_of (not (b == separator_of form)) else 16)
    by Path false (letter h) = simp h.plain_is (simp (h.digit_is, h.dash_is, h.dot_is, h.slash_is))
    by Path false (digit h) = simp h.plain_is (simp (h.digit_is, h.dash_is, h.dot_is, h.slash_is))
    by Path false (dash h) = simp h.plain_is (simp (h.digit_is, h.dash_is, h.dot_is, h.slash_is))
    by Path false (dot h) = simp h.plain_is (simp (h.digit_is, h.dash_is, h.dot_is, h.slash_is))
    by Path false (slash h) = simp h.plain_is (simp (h.digit_is, h.dash_is, h.dot_is, h.slash_is))
    by Path false (other h) = simp h.plain_is (simp (h.digit_is, h.dash_is, h.dot_is, h.slash_is))
    by Path true (letter h) = simp h.plain_is (simp (h.digit_is, h.dash_is, h.dot_is, h.slash_is))
    by Path true (digit h) = simp h.plain_is (simp (h.digit_is, h.dash_is, h.dot_is, h.slash_is))
    by Path true (dash h) = simp h.plain_is (simp (h.digit_is, h.dash_is, h.dot_is, h.slash_is))
    by Path true (dot h) = simp h.plain_is (simp (h.digit_is, h.dash_is, h.dot_is, h.slash_is))
    by Path true (slash h) = simp h.plain_is (simp (h.digit_is, h.dash_is, h.dot_is, h.slash_is))
    by Path true (other h) = simp h.plain_is (simp (h.digit_is, h.dash_is, h.dot_is, h.slash_is))
    by Interface false (letter h) = simp h.plain_is (simp (h.digit_is, h.dash_is, h.dot_is, h.slash_is))
    by Interface false (digit h) = simp h.plain_is (simp (h.digit_is, h.dash_is, h.dot_is, h.slash_is))
    by Interface false (dash h) = simp h.plain_is (simp (h.digit_is, h.dash_is, h.dot_is, h.slash_is))
    by Interface false (dot h) = simp h.plain_is (simp (h.digit_is, h.dash_is, h.dot_is, h.slash_is))
    by Interface false (slash h) = simp h.plain_is (simp (h.digit_is, h.dash_is, h.dot_is, h.slash_is))
    by Interface false (other h) = simp h.plain_is (simp (h.digit_is, h.dash_is, h.dot_is, h.slash_is))
    by Interface true (letter h) = simp h.plain_is (simp (h.digit_is, h.dash_is, h.dot_is, h.slash_is))
    by Interface true (digit h) = simp h.plain_is (simp (h.digit_is, h.dash_is, h.dot_is, h.slash_is))
    by Interface true (dash h) = simp h.plain_is (simp (h.digit_is, h.dash_is, h.dot_is, h.slash_is))
    by Interface true (dot h) = simp h.plain_is (simp (h.digit_is, h.dash_is, h.dot_is, h.slash_is))
    by Interface true (slash h) = simp h.plain_is (simp (h.digit_is, h.dash_is, h.dot_is, h.slash_is))
    by Interface true (other h) = simp h.plain_is (simp (h.digit_is, h.dash_is, h.dot_is, h.slash_is))
    by WellKnown false (letter h) = simp h.plain_is (simp (h.digit_is, h.dash_is, h.dot_is, h.slash_is))
    by WellKnown false (digit h) = simp h.plain_is (simp (h.digit_is, h.dash_is, h.dot_is, h.slash_is))
    by WellKnown false (dash h) = simp h.plain_is (simp (h.digit_is, h.dash_is, h.dot_is, h.slash_is))
    by WellKnown false (dot h) = simp h.plain_is (simp (h.digit_is, h.dash_is, h.dot_is, h.slash_is))
    by WellKnown false (slash h) = simp h.plain_is (simp (h.digit_is, h.dash_is, h.dot_is, h.slash_is))
    by WellKnown false (other h) = simp h.plain_is (simp (h.digit_is, h.dash_is, h.dot_is, h.slash_is))
    by WellKnown true (letter h) = simp h.plain_is (simp (h.digit_is, h.dash_is, h.dot_is, h.slash_is))
    by WellKnown true (digit h) = simp h.plain_is (simp (h.digit_is, h.dash_is, h.dot_is, h.slash_is))
    by WellKnown true (dash h) = simp h.plain_is (simp (h.digit_is, h.dash_is, h.dot_is, h.slash_is))
    by WellKnown true (dot h) = simp h.plain_is (simp (h.digit_is, h.dash_is, h.dot_is, h.slash_is))
    by WellKnown true (slash h) = simp h.plain_is (simp (h.digit_is, h.dash_is, h.dot_is, h.slash_is))
    by WellKnown true (other h) = simp h.plain_is (simp (h.digit_is, h.dash_is, h.dot_is, h.slash_is))
    by Unique false (letter h) = simp h.plain_is (simp (h.digit_is, h.dash_is, h.dot_is, h.slash_is))
    by Unique false (digit h) = simp h.plain_is (simp (h.digit_is, h.dash_is, h.dot_is, h.slash_is))
    by Unique false (dash h) = simp h.plain_is (simp (h.digit_is, h.dash_is, h.dot_is, h.slash_is))
    by Unique false (dot h) = simp h.plain_is (simp (h.digit_is, h.dash_is, h.dot_is, h.slash_is))
    by Unique false (slash h) = simp h.plain_is (simp (h.digit_is, h.dash_is, h.dot_is, h.slash_is))
    by Unique false (other h) = simp h.plain_is (simp (h.digit_is, h.dash_is, h.dot_is, h.slash_is))
    by Unique true (letter h) = simp h.plain_is (simp (h.digit_is, h.dash_is, h.dot_is, h.slash_is))
    by Unique true (digit h) = simp h.plain_is (simp (h.digit_is, h.dash_is, h.dot_is, h.slash_is))
    by Unique true (dash h) = simp h.plain_is (simp (h.digit_is, h.dash_is, h.dot_is, h.slash_is))
    by Unique true (dot h) = simp h.plain_is (simp (h.digit_is, h.dash_is, h.dot_is, h.slash_is))
    by Unique true (slash h) = simp h.plain_is (simp (h.digit_is, h.dash_is, h.dot_is, h.slash_is))
    by Unique true (other h) = simp h.plain_is (simp (h.digit_is, h.dash_is, h.dot_is, h.slash_is))

-- where a walk over some of the bytes has come
pub data Came (form : Form) (bytes : List ℕ) (i state : ℕ) : Type 0 where
  going : (inside : Bool) → state ≡ state_of inside → goes_on form (separator_of form) inside (drop i bytes) ≡ goes_on form (separator_of form) false bytes → Came form bytes i state
  stopped : state ≡ 16 → goes_on form (separator_of form) false bytes ≡ false → Came form bytes i state

pub came_small : (form : Form) (bytes : List ℕ) (i state : ℕ) → Came form bytes i state → state ≤ 16
came_small form bytes i state (going true e g) = omega (arith, e)
came_small form bytes i state (going false e g) = omega (arith, e)
came_small form bytes i state (stopped e g) = omega (arith, e)

from_refused : (form : Form) (b : ℕ) → get_or (next_states form) (16 + byte_class b) 0 ≡ 16
from_refused form b = by form (has_class b)
  where
    by : (form : Form) → HasClass b → get_or (next_states form) (16 + byte_class b) 0 ≡ 16
    by Path (letter h) = rw h.class_is refl
    by Path (digit h) = rw h.class_is refl
    by Path (dash h) = rw h.class_is refl
    by Path (dot h) = rw h.class_is refl
    by Path (slash h) = rw h.class_is refl
    by Path (other h) = rw h.class_is refl
    by Interface (letter h) = rw h.class_is refl
    by Interface (digit h) = rw h.class_is refl
    by Interface (dash h) = rw h.class_is refl
    by Interface (dot h) = rw h.class_is refl
    by Interface (slash h) = rw h.class_is refl
    by Interface (other h) = rw h.class_is refl
    by WellKnown (letter h) = rw h.class_is refl
    by WellKnown (digit h) = rw h.class_is refl
    by WellKnown (dash h) = rw h.class_is refl
    by WellKnown (dot h) = rw h.class_is refl
    by WellKnown (slash h) = rw h.class_is refl
    by WellKnown (other h) = rw h.class_is refl
    by Unique (letter h) = rw h.class_is refl
    by Unique (digit h) = rw h.class_is refl
    by Unique (dash h) = rw h.class_is refl
    by Unique (dot h) = rw h.class_is refl
    by Unique (slash h) = rw h.class_is refl
    by Unique (other h) = rw h.class_is refl

pub came_on : (form : Form) (bytes : List ℕ) (i state : ℕ) → i < length bytes → Came form bytes i state → Came form bytes (i + 1) (get_or (next_states form) (state + byte_class (get_or bytes i 0)) 0)
came_on form bytes i state lt (stopped e g) = stopped (ap (λ s. get_or (next_states form) (s + byte_class (get_or bytes i 0)) 0) e ∙ from_refused form (get_or bytes i 0)) g
came_on form bytes i state lt (going inside e g) = by (may_come form (separator_of form) inside (get_or bytes i 0)) refl
  where
    here : get_or (next_states form) (state + byte_class (get_or bytes i 0)) 0 ≡ (if may_come form (separator_of form) inside (get_or bytes i 0) then state_of (not (get_or bytes i 0 == separator_of form)) else 16)
    here = ap (λ s. get_or (next_states form) (s + byte_class (get_or bytes i 0)) 0) e ∙ steps form inside (get_or bytes i 0)

    chosen : (t : Bool) (x y : ℕ) → may_come form (separator_of form) inside (get_or bytes i 0) ≡ t → (if may_come form (separator_of form) inside (get_or bytes i 0) then x else y) ≡ (if t then x else y)
    chosen t x y m = rw m refl

    by : (t : Bool) → may_come form (separator_of form) inside (get_or bytes i 0) ≡ t → Came form bytes (i + 1) (get_or (next_states form) (state + byte_class (get_or bytes i 0)) 0)
    by true m = going (not (get_or bytes i 0 == separator_of form)) (here ∙ chosen true _ _ m) (sym (goes_on-past form (separator_of form) inside bytes i lt m) ∙ g)
    by false m = stopped (here ∙ chosen false _ _ m) (sym g ∙ goes_on-stop form (separator_of form) inside bytes i lt m)

pub came_to_end : (form : Form) (bytes : List ℕ) (i state : ℕ) → length bytes ≤ i → Came form bytes i state → (state == 8) ≡ goes_on form (separator_of form) false bytes
came_to_end form bytes i state le (stopped e g) = ap (λ s. s == 8) e ∙ sym g
came_to_end form bytes i state le (going true e g) = ap (λ s. s == 8) e ∙ (sym (goes_on-over form (separator_of form) true bytes i le) ∙ g)
came_to_end form bytes i state le (going false e g) = ap (λ s. s == 8) e ∙ (sym (goes_on-over form (separator_of form) false bytes i le) ∙ g)
