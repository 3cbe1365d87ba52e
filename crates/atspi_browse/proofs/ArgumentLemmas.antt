-- The arguments of an event of a text, value by value.
use Rattle.std.proofs.Common.{◌≡◌, ◌<◌, ◌≤◌, ℕ, ℤ, List, [], ◌∷◌, length, Option, None, Some, refl, sym, ap, ◌∙◌, arith}
use Rattle.std.specs.Prelude.{slice_get}
use Rattle.atspi_types.specs.Kinds.{Kind, byte, i16, u16, i32, u32, i64, u64, double}
use Rattle.atspi_types.specs.Data.{Data, number_data, boolean_data, text_data, path_data, signature_data, array_data, structure_data, dictionary_data, variant_data}
use Rattle.atspi_protocol.specs.news.Arguments.{Event, event_in, signed, then_signed, then_text, then_variant}
use Rattle.atspi_browse.specs.Cursor.{other}
use Rattle.atspi_browse.specs.inner.Changes.{of_events, of_minor, of_valued}

module _ {A : Type 0} where
  not_text : (made : List ℕ → List Data → Option A) (a : Data) (xs : List Data) → ((t : List ℕ) → a ≡ text_data t → made t xs ≡ None) → then_text made (a ∷ xs) ≡ None
  not_text made (number_data n x) xs h = refl
  not_text made (boolean_data b) xs h = refl
  not_text made (text_data t) xs h = h t refl
  not_text made (path_data p) xs h = refl
  not_text made (signature_data k) xs h = refl
  not_text made (array_data k ys) xs h = refl
  not_text made (structure_data ys) xs h = refl
  not_text made (dictionary_data k v es) xs h = refl
  not_text made (variant_data k x) xs h = refl

  not_signed : (made : ℤ → List Data → Option A) (a : Data) (xs : List Data) → ((bits : ℕ) → a ≡ number_data i32 bits → made (signed bits) xs ≡ None) → then_signed made (a ∷ xs) ≡ None
  not_signed made (number_data byte x) xs h = refl
  not_signed made (number_data i16 x) xs h = refl
  not_signed made (number_data u16 x) xs h = refl
  not_signed made (number_data i32 x) xs h = h x refl
  not_signed made (number_data u32 x) xs h = refl
  not_signed made (number_data i64 x) xs h = refl
  not_signed made (number_data u64 x) xs h = refl
  not_signed made (number_data double x) xs h = refl
  not_signed made (boolean_data b) xs h = refl
  not_signed made (text_data t) xs h = refl
  not_signed made (path_data p) xs h = refl
  not_signed made (signature_data k) xs h = refl
  not_signed made (array_data k ys) xs h = refl
  not_signed made (structure_data ys) xs h = refl
  not_signed made (dictionary_data k v es) xs h = refl
  not_signed made (variant_data k x) xs h = refl

  not_variant : (made : Data → List Data → Option A) (a : Data) (xs : List Data) → ((k : Kind) (x : Data) → a ≡ variant_data k x → made x xs ≡ None) → then_variant made (a ∷ xs) ≡ None
  not_variant made (number_data n x) xs h = refl
  not_variant made (boolean_data b) xs h = refl
  not_variant made (text_data t) xs h = refl
  not_variant made (path_data p) xs h = refl
  not_variant made (signature_data k) xs h = refl
  not_variant made (array_data k ys) xs h = refl
  not_variant made (structure_data ys) xs h = refl
  not_variant made (dictionary_data k v es) xs h = refl
  not_variant made (variant_data k x) xs h = h k x refl

-- what is made of the arguments, one behind the other
abbrev made3 : List ℕ → ℤ → ℤ → Data → List Data → Option Event
made3 minor one two value rest = Some (record { minor = minor; detail1 = one; detail2 = two; value = value })

abbrev made2 : List ℕ → ℤ → ℤ → List Data → Option Event
made2 minor one two = then_variant (made3 minor one two)

abbrev made1 : List ℕ → ℤ → List Data → Option Event
made1 minor one = then_signed (made2 minor one)

abbrev made0 : List ℕ → List Data → Option Event
made0 minor = then_signed (made1 minor)

-- fewer than four values are no arguments
few : (xs : List Data) → length xs < 4 → event_in xs ≡ None
few [] less = refl
few (a ∷ []) less = not_text made0 a [] (λ t e. refl)
few (a ∷ b ∷ []) less = not_text made0 a (b ∷ []) (λ t e. not_signed (made1 t) b [] (λ x f. refl))
few (a ∷ b ∷ c ∷ []) less = not_text made0 a (b ∷ c ∷ []) (λ t e. not_signed (made1 t) b (c ∷ []) (λ x f. not_signed (made2 t (signed x)) c [] (λ y g. refl)))
few (a ∷ b ∷ c ∷ d ∷ rest) less = absurd (omega (arith, less))

pub too_few : (xs : List Data) → length xs < 4 → other ≡ of_events (event_in xs)
too_few xs less = sym (ap of_events (few xs less))

same : {A : Type 0} (x y : A) → Some x ≡ Some y → x ≡ y
same x y e = cc

-- at least four
with_four : (xs : List Data) → 4 ≤ length xs → (P : List Data → Type 0) → ((a b c d : Data) (rest : List Data) → P (a ∷ b ∷ c ∷ d ∷ rest)) → P xs
with_four [] h P f = absurd (omega (arith, h))
with_four (a ∷ []) h P f = absurd (omega (arith, h))
with_four (a ∷ b ∷ []) h P f = absurd (omega (arith, h))
with_four (a ∷ b ∷ c ∷ []) h P f = absurd (omega (arith, h))
with_four (a ∷ b ∷ c ∷ d ∷ rest) h P f = f a b c d rest

pub no_minor : (xs : List Data) (v : Data) → 4 ≤ length xs → slice_get xs 0 ≡ Some v → ((t : List ℕ) → v ≡ text_data t → ⊥) → other ≡ of_events (event_in xs)
no_minor xs v h g isnt =
    with_four xs h (λ l. slice_get l 0 ≡ Some v → other ≡ of_events (event_in l))
    (λ a b c d rest g0. sym (ap of_events (not_text made0 a (b ∷ c ∷ d ∷ rest) (λ t e. absurd (isnt t (sym (same a v g0) ∙ e)))))) g

pub no_place : (xs : List Data) (w : Data) → 4 ≤ length xs → slice_get xs 1 ≡ Some w → ((bits : ℕ) → w ≡ number_data i32 bits → ⊥) → other ≡ of_events (event_in xs)
no_place xs w h g isnt =
    with_four xs h (λ l. slice_get l 1 ≡ Some w → other ≡ of_events (event_in l))
    (λ a b c d rest g1. sym (ap of_events (not_text made0 a (b ∷ c ∷ d ∷ rest) (λ t e. not_signed (made1 t) b (c ∷ d ∷ rest) (λ x f. absurd (isnt x (sym (same b w g1) ∙ f))))))) g

pub no_count : (xs : List Data) (w : Data) → 4 ≤ length xs → slice_get xs 2 ≡ Some w → ((bits : ℕ) → w ≡ number_data i32 bits → ⊥) → other ≡ of_events (event_in xs)
no_count xs w h g isnt =
    with_four xs h (λ l. slice_get l 2 ≡ Some w → other ≡ of_events (event_in l))
    (λ a b c d rest g2. sym (ap of_events (not_text made0 a (b ∷ c ∷ d ∷ rest)
    (λ t e. not_signed (made1 t) b (c ∷ d ∷ rest) (λ x f. not_signed (made2 t (signed x)) c (d ∷ rest) (λ y k. absurd (isnt y (sym (same c w g2) ∙ k)))))))) g

-- a value that is no text tells nothing
text_or_none : (minor : List ℕ) (one two : ℤ) (x : Data) → ((t : List ℕ) → x ≡ text_data t → ⊥) → of_valued minor one two x ≡ other
text_or_none minor one two (number_data n x) isnt = refl
text_or_none minor one two (boolean_data b) isnt = refl
text_or_none minor one two (text_data t) isnt = absurd (isnt t refl)
text_or_none minor one two (path_data p) isnt = refl
text_or_none minor one two (signature_data k) isnt = refl
text_or_none minor one two (array_data k ys) isnt = refl
text_or_none minor one two (structure_data ys) isnt = refl
text_or_none minor one two (dictionary_data k v es) isnt = refl
text_or_none minor one two (variant_data k x) isnt = refl

variant_or_none : (minor : List ℕ) (one two : ℤ) (d : Data) (rest : List Data) → ((kind : Kind) (t : List ℕ) → d ≡ variant_data kind (text_data t) → ⊥) → of_events (made2 minor one two (d ∷ rest)) ≡ other
variant_or_none minor one two (number_data n x) rest isnt = refl
variant_or_none minor one two (boolean_data b) rest isnt = refl
variant_or_none minor one two (text_data t) rest isnt = refl
variant_or_none minor one two (path_data p) rest isnt = refl
variant_or_none minor one two (signature_data k) rest isnt = refl
variant_or_none minor one two (array_data k ys) rest isnt = refl
variant_or_none minor one two (structure_data ys) rest isnt = refl
variant_or_none minor one two (dictionary_data k v es) rest isnt = refl
variant_or_none minor one two (variant_data k x) rest isnt = text_or_none minor one two x (λ t e. isnt k t (ap (variant_data k) e))

second_or_none : (minor : List ℕ) (one : ℤ) (c d : Data) (rest : List Data) → ((kind : Kind) (t : List ℕ) → d ≡ variant_data kind (text_data t) → ⊥) → of_events (made1 minor one (c ∷ d ∷ rest)) ≡ other
second_or_none minor one (number_data byte x) d rest isnt = refl
second_or_none minor one (number_data i16 x) d rest isnt = refl
second_or_none minor one (number_data u16 x) d rest isnt = refl
second_or_none minor one (number_data i32 x) d rest isnt = variant_or_none minor one (signed x) d rest isnt
second_or_none minor one (number_data u32 x) d rest isnt = refl
second_or_none minor one (number_data i64 x) d rest isnt = refl
second_or_none minor one (number_data u64 x) d rest isnt = refl
second_or_none minor one (number_data double x) d rest isnt = refl
second_or_none minor one (boolean_data b) d rest isnt = refl
second_or_none minor one (text_data t) d rest isnt = refl
second_or_none minor one (path_data p) d rest isnt = refl
second_or_none minor one (signature_data k) d rest isnt = refl
second_or_none minor one (array_data k ys) d rest isnt = refl
second_or_none minor one (structure_data ys) d rest isnt = refl
second_or_none minor one (dictionary_data k v es) d rest isnt = refl
second_or_none minor one (variant_data k x) d rest isnt = refl

pub no_value : (xs : List Data) (minor : List ℕ) (one : ℕ) (w : Data) → 4 ≤ length xs → slice_get xs 0 ≡ Some (text_data minor) → slice_get xs 1 ≡ Some (number_data i32 one) → slice_get xs 3 ≡ Some w
    → ((kind : Kind) (t : List ℕ) → w ≡ variant_data kind (text_data t) → ⊥) → other ≡ of_events (event_in xs)
no_value xs minor one w h g0 g1 g3 isnt =
    with_four xs h (λ l. slice_get l 0 ≡ Some (text_data minor) → slice_get l 1 ≡ Some (number_data i32 one) → slice_get l 3 ≡ Some w → other ≡ of_events (event_in l))
    (λ a b c d rest k0 k1 k3.
    let p : a ≡ text_data minor = same a (text_data minor) k0 in
    let q : b ≡ number_data i32 one = same b (number_data i32 one) k1 in
    let s : d ≡ w = same d w k3 in
    sym (ap (λ x. of_events (event_in (x ∷ b ∷ c ∷ d ∷ rest))) p ∙ ap (λ x. of_events (event_in (text_data minor ∷ x ∷ c ∷ d ∷ rest))) q
    ∙ second_or_none minor (signed one) c d rest (λ kind t e. isnt kind t (sym s ∙ e))))
    g0 g1 g3

-- all four are there
pub all_four : (xs : List Data) (minor : List ℕ) (one two : ℕ) (at count : ℤ) (kind : Kind) (text : List ℕ) → 4 ≤ length xs → slice_get xs 0 ≡ Some (text_data minor) → slice_get xs 1 ≡ Some (number_data i32 one)
    → slice_get xs 2 ≡ Some (number_data i32 two) → slice_get xs 3 ≡ Some (variant_data kind (text_data text)) → signed one ≡ at → signed two ≡ count → of_minor minor at count text ≡ of_events (event_in xs)
all_four xs minor one two at count kind text h g0 g1 g2 g3 e f =
    with_four xs h
    (λ l. slice_get l 0 ≡ Some (text_data minor) → slice_get l 1 ≡ Some (number_data i32 one) → slice_get l 2 ≡ Some (number_data i32 two) → slice_get l 3 ≡ Some (variant_data kind (text_data text))
    → of_minor minor at count text ≡ of_events (event_in l))
    (λ a b c d rest k0 k1 k2 k3.
    let p : a ≡ text_data minor = same a (text_data minor) k0 in
    let q : b ≡ number_data i32 one = same b (number_data i32 one) k1 in
    let r : c ≡ number_data i32 two = same c (number_data i32 two) k2 in
    let s : d ≡ variant_data kind (text_data text) = same d (variant_data kind (text_data text)) k3 in
    sym (ap (λ x. of_events (event_in (x ∷ b ∷ c ∷ d ∷ rest))) p ∙ ap (λ x. of_events (event_in (text_data minor ∷ x ∷ c ∷ d ∷ rest))) q
    ∙ ap (λ x. of_events (event_in (text_data minor ∷ number_data i32 one ∷ x ∷ d ∷ rest))) r
    ∙ ap (λ x. of_events (event_in (text_data minor ∷ number_data i32 one ∷ number_data i32 two ∷ x ∷ rest))) s
    ∙ ap (λ z. of_minor minor z (signed two) text) e ∙ ap (λ z. of_minor minor at z text) f))
    g0 g1 g2 g3
