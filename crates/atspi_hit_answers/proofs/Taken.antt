-- The arguments of a call, by what each is.
use Rattle.std.proofs.Common.{◌≡◌, ℤ, Bool, true, false, List, [], ◌∷◌, length, None, Some, refl, sym, ap, ◌∙◌, arith}
use Rattle.std.specs.Prelude.{◌↔◌, IsTrue, slice_get}
use Rattle.std.proofs.lemmas.Bool.{eqb-true, eq-eqb}
use Rattle.atspi_types.specs.Kinds.{u32}
use Rattle.atspi_types.specs.Data.{Data, number_data}
use Rattle.atspi_types.specs.Borrowed.{ref_data}
use Rattle.atspi_types.specs.declared.borrowed.ValueRef.{ValueRef}
use Rattle.atspi_types.specs.declared.borrowed.ValueRef.TheVariants as refs
use Rattle.atspi_protocol.specs.members.Arguments.{int}
use Rattle.atspi_hit_answers.specs.Component.{screen, point}
use Rattle.atspi_hit_answers.specs.inner.Reading.{signed_ref, is_screen_ref}

some_is : {A : Type 0} (x y : A) → Some x ≡ Some y → x ≡ y
some_is x y e = cc

is_signed : (v : ValueRef) (z : ℤ) → signed_ref v ≡ Some z → ref_data v ≡ int z
is_signed (refs.I32 w) z e = ap (λ (u : ℤ). int u) (some_is w z e)
is_signed _ z e = absurd cc

not_signed : (v : ValueRef) (z : ℤ) → signed_ref v ≡ None → ref_data v ≡ int z → ⊥
not_signed (refs.I32 w) z e h = cc
not_signed _ z e h = cc

is_of_screen : (v : ValueRef) → is_screen_ref v ≡ true → ref_data v ≡ screen
is_of_screen (refs.U32 n) e = ap (λ m. number_data u32 m) (eqb-true n 0 e)
is_of_screen _ e = absurd cc

not_of_screen : (v : ValueRef) → is_screen_ref v ≡ false → ref_data v ≡ screen → ⊥
not_of_screen (refs.U32 n) e h = let s : n ≡ 0 = cc in let t = eq-eqb n 0 s in cc
not_of_screen _ e h = cc

three : (xs : List Data) (a b c : Data) → length xs ≡ 3 → slice_get xs 0 ≡ Some a → slice_get xs 1 ≡ Some b
    → slice_get xs 2 ≡ Some c → xs ≡ a ∷ b ∷ c ∷ []
three [] a b c l p q r = absurd (omega arith)
three (x ∷ []) a b c l p q r = absurd (omega arith)
three (x ∷ y ∷ []) a b c l p q r = absurd (omega arith)
three (x ∷ y ∷ z ∷ []) a b c l p q r =
    let e : x ≡ a = some_is x a p in
    let f : y ≡ b = some_is y b q in
    let g : z ≡ c = some_is z c r in
    cc
three (x ∷ y ∷ z ∷ w ∷ more) a b c l p q r = absurd (omega arith)

one : (xs : List Data) (a : Data) → length xs ≡ 1 → slice_get xs 0 ≡ Some a → xs ≡ a ∷ []
one [] a l p = absurd (omega arith)
one (x ∷ []) a l p = let e : x ≡ a = some_is x a p in cc
one (x ∷ y ∷ more) a l p = absurd (omega arith)

module _ (xs : List Data) where
  pub point_is : (x y : ℤ) (a b c : ValueRef) → length xs ≡ 3 → slice_get xs 0 ≡ Some (ref_data a) → slice_get xs 1 ≡ Some (ref_data b)
      → slice_get xs 2 ≡ Some (ref_data c) → signed_ref a ≡ Some x → signed_ref b ≡ Some y → is_screen_ref c ≡ true → xs ≡ point x y
  point_is x y a b c l p q r sx sy sc =
      three xs (ref_data a) (ref_data b) (ref_data c) l p q r
      ∙ ap (λ d. d ∷ ref_data b ∷ ref_data c ∷ []) (is_signed a x sx)
      ∙ ap (λ d. int x ∷ d ∷ ref_data c ∷ []) (is_signed b y sy)
      ∙ ap (λ d. int x ∷ int y ∷ d ∷ []) (is_of_screen c sc)

  pub not_three : (length xs ≡ 3 → ⊥) → (x y : ℤ) → xs ≡ point x y → ⊥
  not_three other x y e = other (ap length e)

  pub not_first : (a : ValueRef) → slice_get xs 0 ≡ Some (ref_data a) → signed_ref a ≡ None → (x y : ℤ) → xs ≡ point x y → ⊥
  not_first a p s x y e = not_signed a x s (some_is _ _ (sym p ∙ ap (λ (l : List Data). slice_get l 0) e))

  pub not_second : (b : ValueRef) → slice_get xs 1 ≡ Some (ref_data b) → signed_ref b ≡ None → (x y : ℤ) → xs ≡ point x y → ⊥
  not_second b q s x y e = not_signed b y s (some_is _ _ (sym q ∙ ap (λ (l : List Data). slice_get l 1) e))

  pub not_third : (c : ValueRef) → slice_get xs 2 ≡ Some (ref_data c) → is_screen_ref c ≡ false → (x y : ℤ) → xs ≡ point x y → ⊥
  not_third c r s x y e = not_of_screen c s (some_is _ _ (sym r ∙ ap (λ (l : List Data). slice_get l 2) e))

  pub screen_is : (a : ValueRef) → length xs ≡ 1 → slice_get xs 0 ≡ Some (ref_data a) → is_screen_ref a ≡ true → xs ≡ screen ∷ []
  screen_is a l p s = one xs (ref_data a) l p ∙ ap (λ d. d ∷ []) (is_of_screen a s)

  pub not_screen : (a : ValueRef) → slice_get xs 0 ≡ Some (ref_data a) → is_screen_ref a ≡ false → xs ≡ screen ∷ [] → ⊥
  not_screen a p s e = not_of_screen a s (some_is _ _ (sym p ∙ ap (λ (l : List Data). slice_get l 0) e))

pub screen_tells : (xs : List Data) (a : ValueRef) (b : Bool) → length xs ≡ 1 → slice_get xs 0 ≡ Some (ref_data a)
    → b ≡ is_screen_ref a → IsTrue b ↔ (xs ≡ screen ∷ [])
screen_tells xs a true l p e = ((λ h. screen_is xs a l p (sym e)), (λ h. refl))
screen_tells xs a false l p e = ((λ h. absurd cc), (λ h. absurd (not_screen xs a p (sym e) h)))
