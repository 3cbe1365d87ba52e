-- The first part that is wanted of a view in which one row alone has any.
use Rattle.std.proofs.Common.{◌≡◌, ℕ, zero, suc, Bool, true, false, cond, ◌⊎◌, inl, inr, List, [], ◌∷◌, ◌++◌, Option, Some, None, refl, sym, ap, ◌∙◌}
use Rattle.std.specs.Prelude.{◌||◌, is_some}
use Rattle.std.specs.Option.{option_map}
use Rattle.std.specs.List.{list_any}
use Rattle.std.proofs.lemmas.List.Folds.{list_any-append}
use Rattle.atspi_tree_model.specs.declared.view.Row.{Row}
use Rattle.atspi_tree_model.specs.Forest.{Forest, nil, tree, labels, has, join, put_at, put_place, put_if, put_in, EachLabel}
use Rattle.atspi_tree_model.specs.Row.{Each}
use Rattle.atspi_protocol.specs.declared.news.part.PartName.{PartName}
use Rattle.atspi_reader_known.specs.Wanted.{first_part, first_wanted}
use Rattle.atspi_reader_known.proofs.Fewer.{IsSettled}
use Rattle.atspi_reader_known.proofs.Firsts.{none_left, none_right, none_mapped}

each_append : {A : Type 0} (P : A → Type 0) (xs ys : List A) → Each P xs → Each P ys → Each P (xs ++ ys)
each_append P [] ys h k = k
each_append P (x ∷ xs) ys h k = (h.0, each_append P xs ys h.1 k)

each_front : {A : Type 0} (P : A → Type 0) (xs ys : List A) → Each P (xs ++ ys) → Each P xs
each_front P [] ys h = tt
each_front P (x ∷ xs) ys h = (h.0, each_front P xs ys h.1)

each_back : {A : Type 0} (P : A → Type 0) (xs ys : List A) → Each P (xs ++ ys) → Each P ys
each_back P [] ys h = h
each_back P (x ∷ xs) ys h = each_back P xs ys h.1

pub each_labels : {A : Type 0} (P : A → Type 0) (f : Forest A) → EachLabel P f → Each P (labels f)
each_labels P nil h = tt
each_labels P (tree a c r) h = (h.0, each_append P (labels c) (labels r) (each_labels P c h.1) (each_labels P r h.2))

pub each_of_labels : {A : Type 0} (P : A → Type 0) (f : Forest A) → Each P (labels f) → EachLabel P f
each_of_labels P nil h = tt
each_of_labels P (tree a c r) h =
    (h.0, each_of_labels P c (each_front P (labels c) (labels r) h.1), each_of_labels P r (each_back P (labels c) (labels r) h.1))

or_cond : (a b : Bool) → (a || b) ≡ cond a true b
or_cond true b = refl
or_cond false b = refl

pub any_labels : {A : Type 0} (q : A → Bool) (f : Forest A) → list_any q (labels f) ≡ has q f
any_labels q nil = refl
any_labels q (tree a c r) =
    or_cond (q a) (list_any q (labels c ++ labels r))
    ∙ ap (cond (q a) true) (list_any-append q (labels c) (labels r) ∙ or_cond (list_any q (labels c)) (list_any q (labels r))
    ∙ ap (λ (b : Bool). cond b true (list_any q (labels r))) (any_labels q c)
    ∙ ap (cond (has q c) true) (any_labels q r))

module _ {A : Type 0} (q : A → Bool) where
  first_true : (a b c : Bool) → a ≡ true → cond a true (cond b true c) ≡ true
  first_true a b c e = rw e refl

  second_true : (a b c : Bool) → b ≡ true → cond a true (cond b true c) ≡ true
  second_true true b c e = refl
  second_true false b c e = rw e refl

  third_true : (a b c : Bool) → c ≡ true → cond a true (cond b true c) ≡ true
  third_true true b c e = refl
  third_true false true c e = refl
  third_true false false c e = e

  has_join_right : (f g : Forest A) → has q g ≡ true → has q (join f g) ≡ true
  has_join_right nil g e = e
  has_join_right (tree a c r) g e = third_true (q a) (has q c) (has q (join r g)) (has_join_right r g e)

  has_join_left : (f g : Forest A) → has q f ≡ true → has q (join f g) ≡ true
  has_join_left nil g e = absurd cc
  has_join_left (tree a c r) g e = by (q a) (has q c) e (λ k. has_join_left r g k)
    where
      by : (x y : Bool) → cond x true (cond y true (has q r)) ≡ true → (has q r ≡ true → has q (join r g) ≡ true)
          → cond x true (cond y true (has q (join r g))) ≡ true
      by true y e rest = refl
      by false true e rest = refl
      by false false e rest = rest e

  has_put_at : (i : ℕ) (g f : Forest A) → has q g ≡ true → has q (put_at i g f) ≡ true
  has_put_at zero g nil e = e
  has_put_at (suc i) g nil e = e
  has_put_at zero g (tree a c r) e = has_join_left g (tree a c r) e
  has_put_at (suc i) g (tree a c r) e = third_true (q a) (has q c) (has q (put_at i g r)) (has_put_at i g r e)

  has_put_place : (i : Option ℕ) (g f : Forest A) → has q g ≡ true → has q (put_place i g f) ≡ true
  has_put_place None g f e = has_join_right f g e
  has_put_place (Some i) g f e = has_put_at i g f e

  has_put_if : (b : Bool) (i : Option ℕ) (g f : Forest A) → has q g ≡ true → has q f ≡ true → has q (put_if b i g f) ≡ true
  has_put_if true i g f e k = has_put_place i g f e
  has_put_if false i g f e k = k

  -- what is put below a node that is there is there
  pub has_put_in : (up : A → Bool) (i : Option ℕ) (g f : Forest A) → has q g ≡ true → has up f ≡ true → has q (put_in up i g f) ≡ true
  has_put_in up i g nil e h = absurd cc
  has_put_in up i g (tree a c r) e h =
      by (up a) (has up c) refl h (λ k. has_put_in up i g c e k) (λ k. has_put_in up i g r e k)
    where
      by : (x y : Bool) → has up c ≡ y → cond x true (cond y true (has up r)) ≡ true
          → (has up c ≡ true → has q (put_in up i g c) ≡ true) → (has up r ≡ true → has q (put_in up i g r) ≡ true)
          → cond (q a) true (cond (has q (put_if x i g (put_in up i g c))) true (has q (put_in up i g r))) ≡ true
      by true y ey k below rest = second_true (q a) _ _ (has_put_place i g (put_in up i g c) e)
      by false true ey k below rest = second_true (q a) _ _ (below ey)
      by false false ey k below rest = third_true (q a) _ _ (rest k)

module _ (refused : List (List ℕ × PartName)) where
  pub none_wanted : (rows : List Row) → Each (IsSettled refused) rows → first_wanted refused rows ≡ None
  none_wanted [] h = refl
  none_wanted (row ∷ rows) h = rw (h.0, none_wanted rows h.1) refl

  pub all_settled : (rows : List Row) → first_wanted refused rows ≡ None → Each (IsSettled refused) rows
  all_settled [] e = tt
  all_settled (row ∷ rows) e = (
    none_mapped (λ (part : PartName). (row.path, part)) (first_part refused row) (none_left _ (first_wanted refused rows) e),
    all_settled rows (none_right (option_map (λ (part : PartName). (row.path, part)) (first_part refused row)) _ e),
  )

  module _ (x : Row) (part : PartName) (e : first_part refused x ≡ Some part) where
    abbrev pub IsOrSettled : Row → Type 0
    IsOrSettled row = IsSettled refused row ⊎ (row ≡ x)

    abbrev pub is_wanted : Row → Bool
    is_wanted row = is_some (first_part refused row)

    pub one_wanted : (rows : List Row) → Each IsOrSettled rows → list_any is_wanted rows ≡ true → first_wanted refused rows ≡ Some (x.path, part)
    one_wanted [] h k = absurd cc
    one_wanted (row ∷ rows) h k = by h.0 (λ l. one_wanted rows h.1 l)
      where
        by : IsOrSettled row → (list_any is_wanted rows ≡ true → first_wanted refused rows ≡ Some (x.path, part)) → first_wanted refused (row ∷ rows) ≡ Some (x.path, part)
        by (inl none) rest =
            let there : list_any is_wanted rows ≡ true = ap (λ (o : Option PartName). is_some o || list_any is_wanted rows) (sym none) ∙ k in
            rw none (rest there)
        by (inr same) rest = rw (same, e) refl
