-- What faces of columns and of actions keep of a node.
use Rattle.std.proofs.Common.{◌≡◌, ℕ, zero, suc, ◌+◌, ◌<◌, ◌≤◌, List, [], ◌∷◌, ◌++◌, Option, Some, None, length, take, refl, sym, ap, ◌∙◌, add-one, arith}
use Rattle.std.specs.Prelude.{slice_get, slice_index_or, MatchOption}
use Rattle.std.specs.FinMap.{get}
use Rattle.std.specs.Option.{option_map_or}
use Rattle.atspi_types.specs.Data.{Data, text_data}
use Rattle.atspi_tree_model.specs.declared.contents.FaceData.{FaceData}
use Rattle.atspi_tree_model.specs.declared.contents.FaceData.TheVariants.{Chars, Grid, Deeds}
use Rattle.atspi_tree_model.specs.declared.contents.FaceKind.{FaceKind}
use Rattle.atspi_tree_model.specs.declared.contents.FaceKind.TheVariants.{Grid as grid_kind, Deeds as deeds_kind}
use Rattle.atspi_faces.specs.face.Contents.{count_of, part_of, IsPart}
use Rattle.atspi_faces.specs.face.Nodes.{Nodes, AreContents, HasPart, count_at, part_at}
use Rattle.atspi_protocol.specs.objects.Answers.{name_data}
use Rattle.atspi_app_contents.specs.values.Actions.{actions_in}
use Rattle.atspi_app_contents.specs.values.inner.Actions.{name_or_empty}
use Rattle.atspi_app_contents.specs.values.Numbers.{columns_in}

pub columns_counted : (kind : FaceKind) (is : kind ≡ grid_kind) (nodes : Nodes) (kept : AreContents kind nodes) (n : ℕ) → count_at nodes n ≡ columns_in (get nodes n)
columns_counted kind is nodes kept n = by (get nodes n) refl
  where
    by : (o : Option FaceData) → get nodes n ≡ o → option_map_or count_of o 0 ≡ columns_in o
    by None e = refl
    by (Some (Chars x caret marks)) e = let clash = (kept n (Chars x caret marks) e).of_kind in absurd cc
    by (Some (Grid k)) e = refl
    by (Some (Deeds names)) e = let clash = (kept n (Deeds names) e).of_kind in absurd cc

module _ (kind : FaceKind) (is : kind ≡ deeds_kind) (nodes : Nodes) (kept : AreContents kind nodes) (n : ℕ) where
  pub actions_counted : count_at nodes n ≡ length (actions_in (get nodes n))
  actions_counted = by (get nodes n) refl
    where
      by : (o : Option FaceData) → get nodes n ≡ o → option_map_or count_of o 0 ≡ length (actions_in o)
      by None e = refl
      by (Some (Chars x caret marks)) e = let clash = (kept n (Chars x caret marks) e).of_kind in absurd cc
      by (Some (Grid k)) e = let clash = (kept n (Grid k) e).of_kind in absurd cc
      by (Some (Deeds names)) e = refl

  pub has_name : (i to : ℕ) → i < count_at nodes n → HasPart nodes n i to
  has_name i to l = by (get nodes n) refl l
    where
      by : (o : Option FaceData) → get nodes n ≡ o → i < option_map_or count_of o 0 → MatchOption o ⊥ (λ what. IsPart what i to)
      by None e l = absurd (omega (arith, l))
      by (Some (Chars x caret marks)) e l = let clash = (kept n (Chars x caret marks) e).of_kind in absurd cc
      by (Some (Grid k)) e l = let clash = (kept n (Grid k) e).of_kind in absurd cc
      by (Some (Deeds names)) e l = l

  -- the name at an index
  get_default : (xs : List (List ℕ)) (i : ℕ) → slice_index_or xs i [] ≡ name_or_empty (slice_get xs i)
  get_default [] i = refl
  get_default (x ∷ xs) zero = refl
  get_default (x ∷ xs) (suc i) = get_default xs i

  pub name_is : (i to : ℕ) → part_at nodes n i to ≡ name_or_empty (slice_get (actions_in (get nodes n)) i)
  name_is i to = by (get nodes n) refl
    where
      by : (o : Option FaceData) → get nodes n ≡ o → option_map_or (λ what. part_of what i to) o [] ≡ name_or_empty (slice_get (actions_in o) i)
      by None e = refl
      by (Some (Chars x caret marks)) e = let clash = (kept n (Chars x caret marks) e).of_kind in absurd cc
      by (Some (Grid k)) e = refl
      by (Some (Deeds names)) e = get_default names i

  past : (xs : List (List ℕ)) (i : ℕ) → length xs ≤ i → [] ≡ name_or_empty (slice_get xs i)
  past [] i l = refl
  past (x ∷ xs) zero l = absurd (omega (arith, l))
  past (x ∷ xs) (suc i) l = past xs i (omega (arith, l))

  pub no_name : (i : ℕ) → count_at nodes n ≤ i → [] ≡ name_or_empty (slice_get (actions_in (get nodes n)) i)
  no_name i l = let c = actions_counted in past (actions_in (get nodes n)) i (omega (arith, l, c))

  -- names, one after the other
  one_more : (xs : List (List ℕ)) (i : ℕ) → i < length xs → take (suc i) xs ≡ take i xs ++ name_or_empty (slice_get xs i) ∷ []
  one_more [] i l = absurd (omega (arith, l))
  one_more (x ∷ xs) zero l = refl
  one_more (x ∷ xs) (suc i) l = ap (λ (ys : List (List ℕ)). x ∷ ys) (one_more xs i (omega (arith, l)))

  pub names_more : (names more : List (List ℕ)) (i : ℕ) (name : List ℕ) → i < count_at nodes n → names ≡ take i (actions_in (get nodes n)) → name ≡ part_at nodes n i i → more ≡ names ++ name ∷ []
      → more ≡ take (i + 1) (actions_in (get nodes n))
  names_more names more i name l e f g =
      let c = actions_counted in
      g ∙ ap (λ (xs : List (List ℕ)). xs ++ name ∷ []) e
      ∙ ap (λ (x : List ℕ). take i (actions_in (get nodes n)) ++ x ∷ []) (f ∙ name_is i i)
      ∙ sym (one_more (actions_in (get nodes n)) i (omega (arith, l, c)))
      ∙ ap (λ (m : ℕ). take m (actions_in (get nodes n))) (sym (add-one i))

  whole : (xs : List (List ℕ)) → take (length xs) xs ≡ xs
  whole [] = refl
  whole (x ∷ xs) = ap (λ (ys : List (List ℕ)). x ∷ ys) (whole xs)

  pub names_all : (names : List (List ℕ)) (i : ℕ) → i ≡ count_at nodes n → names ≡ take i (actions_in (get nodes n)) → names ≡ actions_in (get nodes n)
  names_all names i l e = e ∙ ap (λ (m : ℕ). take m (actions_in (get nodes n))) (l ∙ actions_counted) ∙ whole (actions_in (get nodes n))

-- a name that may be none, as a value
pub name_told : (o : Option (List ℕ)) (name : List ℕ) (v : Data) → name ≡ name_or_empty o → v ≡ text_data name → v ≡ name_data o
name_told None name v e f = f ∙ ap text_data e
name_told (Some x) name v e f = f ∙ ap text_data e
