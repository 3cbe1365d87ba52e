-- The text of a node, and parts of it, as a face has them.
use Rattle.std.proofs.Common.{◌≡◌, ℕ, zero, suc, ℤ, ◌+◌, ◌-◌, ◌<◌, ◌≤◌, Bool, true, false, cond, List, [], ◌∷◌, Option, None, Some, length, take, drop, refl, sym, ap, subst, ◌∙◌, arith}
use Rattle.std.specs.Prelude.{pos, negsuc, nat_le, get_or, slice_get, MatchOption, IsSome}
use Rattle.std.specs.Option.{option_map_or}
use Rattle.std.specs.FinMap.{get}
use Rattle.std.proofs.lemmas.Bool.{leb-true}
use Rattle.atspi_tree_model.specs.declared.contents.FaceKind.{FaceKind}
use Rattle.atspi_tree_model.specs.declared.contents.FaceKind.TheVariants.{Chars as chars_kind}
use Rattle.atspi_tree_model.specs.declared.contents.FaceData.{FaceData}
use Rattle.atspi_tree_model.specs.declared.contents.FaceData.TheVariants.{Chars, Grid, Deeds}
use Rattle.atspi_tree_model.specs.Row.{TextContents, Each, IsText}
use Rattle.atspi_tree_model.specs.Edits.{known_text}
use Rattle.atspi_faces.specs.face.Contents.{kind_of, count_of, caret_of, marks_of, part_of as face_part, IsPart}
use Rattle.atspi_faces.specs.face.Nodes.{Nodes, AreContents, HasText, HasPart, count_at, caret_at, marks_at, part_at}
use Rattle.atspi_protocol.specs.objects.Texts.{part_of}
use Rattle.atspi_app_contents.specs.texts.inner.Parts.{start_at, end_at}
use Rattle.atspi_app_contents.specs.texts.inner.Selections.{IsSmall, AreSmall}
use Rattle.atspi_app_contents.specs.texts.Texts.{text_at, text_or_none, contents_at}
use Rattle.atspi_app_contents.specs.texts.inner.Texts.{code_of}

whole_taken : (xs : List ℕ) → take (length xs) xs ≡ xs
whole_taken [] = refl
whole_taken (x ∷ xs) = ap (λ l. x ∷ l) (whole_taken xs)

nothing_taken : (k m : ℕ) → [] ≡ take k (drop {A = ℕ} m [])
nothing_taken zero zero = refl
nothing_taken zero (suc m) = refl
nothing_taken (suc k) zero = refl
nothing_taken (suc k) (suc m) = refl

-- what a face of texts has of a node
module _ (kind : FaceKind) (is : kind ≡ chars_kind) (texts : Nodes) (kept : AreContents kind texts) (n : ℕ) where
  abbrev characters : List ℕ
  characters = (text_at texts n).characters

  abbrev text_in : Option FaceData → TextContents
  text_in o = option_map_or known_text o (record { characters = []; caret = 0; selections = [] })

  pub count_is : count_at texts n ≡ length characters
  count_is = by (get texts n) refl
    where
      by : (o : Option FaceData) → get texts n ≡ o → option_map_or count_of o 0 ≡ length (text_in o).characters
      by None e = refl
      by (Some (Chars x caret marks)) e = refl
      by (Some (Grid k)) e = let clash = (kept n (Grid k) e).of_kind in absurd cc
      by (Some (Deeds names)) e = let clash = (kept n (Deeds names) e).of_kind in absurd cc

  pub caret_is : caret_at texts n ≡ (text_at texts n).caret
  caret_is = by (get texts n)
    where
      by : (o : Option FaceData) → option_map_or caret_of o 0 ≡ (text_in o).caret
      by None = refl
      by (Some (Chars x caret marks)) = refl
      by (Some (Grid k)) = refl
      by (Some (Deeds names)) = refl

  pub marks_is : marks_at texts n ≡ (text_at texts n).selections
  marks_is = by (get texts n)
    where
      by : (o : Option FaceData) → option_map_or marks_of o [] ≡ (text_in o).selections
      by None = refl
      by (Some (Chars x caret marks)) = refl
      by (Some (Grid k)) = refl
      by (Some (Deeds names)) = refl

  -- a node that is here has a text, and one that is not has none
  pub has_text : IsSome (get texts n) → HasText texts n
  has_text h = by (get texts n) refl h
    where
      by : (o : Option FaceData) → get texts n ≡ o → IsSome o → MatchOption o ⊥ (λ what. kind_of what ≡ chars_kind)
      by None e h = let z : false ≡ true = h in cc
      by (Some (Chars x caret marks)) e h = refl
      by (Some (Grid k)) e h = let clash = (kept n (Grid k) e).of_kind in absurd cc
      by (Some (Deeds names)) e h = let clash = (kept n (Deeds names) e).of_kind in absurd cc

  pub no_text : get texts n ≡ None → text_at texts n ≡ record { characters = []; caret = 0; selections = [] }
  no_text e = rw e refl

  pub no_contents : get texts n ≡ None → Deeds [] ≡ contents_at texts n
  no_contents e = rw e refl

  pub has_part : (from to : ℕ) → from < to → to ≤ count_at texts n → HasPart texts n from to
  has_part from to l k = by (get texts n) refl k
    where
      by : (o : Option FaceData) → get texts n ≡ o → to ≤ option_map_or count_of o 0 → MatchOption o ⊥ (λ what. IsPart what from to)
      by None e k = absurd (omega (arith, l, k))
      by (Some (Chars x caret marks)) e k = (omega (arith, l), k)
      by (Some (Grid m)) e k = let clash = (kept n (Grid m) e).of_kind in absurd cc
      by (Some (Deeds names)) e k = let clash = (kept n (Deeds names) e).of_kind in absurd cc

  pub has_whole : IsSome (get texts n) → HasPart texts n 0 (count_at texts n)
  has_whole h = by (get texts n) refl h
    where
      by : (o : Option FaceData) → get texts n ≡ o → IsSome o → MatchOption o ⊥ (λ what. IsPart what 0 (option_map_or count_of o 0))
      by None e h = let z : false ≡ true = h in cc
      by (Some (Chars x caret marks)) e h = (omega arith, omega arith)
      by (Some (Grid m)) e h = let clash = (kept n (Grid m) e).of_kind in absurd cc
      by (Some (Deeds names)) e h = let clash = (kept n (Deeds names) e).of_kind in absurd cc

  pub part_is : (from to : ℕ) → part_at texts n from to ≡ take (to - from) (drop from characters)
  part_is from to = by (get texts n) refl
    where
      by : (o : Option FaceData) → get texts n ≡ o → option_map_or (λ what. face_part what from to) o [] ≡ take (to - from) (drop from (text_in o).characters)
      by None e = nothing_taken (to - from) from
      by (Some (Chars x caret marks)) e = refl
      by (Some (Grid m)) e = let clash = (kept n (Grid m) e).of_kind in absurd cc
      by (Some (Deeds names)) e = let clash = (kept n (Deeds names) e).of_kind in absurd cc

  -- the text of a node that is here, from its parts
  pub contents_are : IsSome (get texts n) → (x : List ℕ) (caret : ℕ) (marks : List (ℕ × ℕ)) → x ≡ part_at texts n 0 (count_at texts n) → caret ≡ caret_at texts n → marks ≡ marks_at texts n
      → Chars x caret marks ≡ contents_at texts n
  contents_are h x caret marks ex ec em = by (get texts n) refl h ex ec em
    where
      by : (o : Option FaceData) → get texts n ≡ o → IsSome o → x ≡ option_map_or (λ what. face_part what 0 (option_map_or count_of o 0)) o [] → caret ≡ option_map_or caret_of o 0 → marks ≡ option_map_or marks_of o []
          → Chars x caret marks ≡ text_or_none o
      by None e h ex ec em = let z : false ≡ true = h in cc
      by (Some (Chars y k ms)) e h ex ec em =
          let z : length y - 0 ≡ length y = omega arith in
          ap (λ (l : List ℕ). Chars l caret marks) (ex ∙ ap (λ (m : ℕ). take m y) z ∙ whole_taken y) ∙ ap (λ (m : ℕ). Chars y m marks) ec ∙ ap (λ (l : List (ℕ × ℕ)). Chars y k l) em
      by (Some (Grid m)) e h ex ec em = let clash = (kept n (Grid m) e).of_kind in absurd cc
      by (Some (Deeds names)) e h ex ec em = let clash = (kept n (Deeds names) e).of_kind in absurd cc

-- a part by its places
pub part_between : (xs : List ℕ) (a b : ℤ) → part_of xs a b ≡ take (end_at b (length xs) - start_at a) (drop (start_at a) xs)
part_between xs (pos i) (pos j) = refl
part_between xs (pos i) (negsuc j) = refl
part_between xs (negsuc i) (pos j) = refl
part_between xs (negsuc i) (negsuc j) = refl

pub end_within : (b : ℤ) (count : ℕ) → end_at b count ≤ count
end_within (pos n) count = by (nat_le n count) refl
  where
    by : (t : Bool) → nat_le n count ≡ t → cond t n count ≤ count
    by true e = leb-true n count e
    by false e = omega arith
end_within (negsuc n) count = omega arith

nothing_left : (xs : List ℕ) (from to : ℕ) → to ≤ from → take (to - from) (drop from xs) ≡ []
nothing_left xs from to l = let none : to - from ≡ 0 = omega (arith, l) in ap (λ k. take k (drop from xs)) none

-- what the code gives of a part
module _ (kind : FaceKind) (is : kind ≡ chars_kind) (texts : Nodes) (kept : AreContents kind texts) (n : ℕ) (a b : ℤ) (from to : ℕ) (first : from ≡ start_at a) (last : to ≡ end_at b (count_at texts n)) where
  whole : part_of (text_at texts n).characters a b ≡ take (to - from) (drop from (text_at texts n).characters)
  whole =
      part_between (text_at texts n).characters a b
      ∙ ap (λ (k : ℕ). take (end_at b k - start_at a) (drop (start_at a) (text_at texts n).characters)) (sym (count_is kind is texts kept n))
      ∙ ap (λ (k : ℕ). take (k - start_at a) (drop (start_at a) (text_at texts n).characters)) (sym last)
      ∙ ap (λ (k : ℕ). take (to - k) (drop k (text_at texts n).characters)) (sym first)

  pub told_none : to ≤ from → [] ≡ part_of (text_at texts n).characters a b
  told_none l = sym (whole ∙ nothing_left (text_at texts n).characters from to l)

  pub told_part : (x : List ℕ) → x ≡ part_at texts n from to → x ≡ part_of (text_at texts n).characters a b
  told_part x e = e ∙ part_is kind is texts kept n from to ∙ sym whole

  pub may_part : from < to → HasPart texts n from to
  may_part l = has_part kind is texts kept n from to l (subst (λ k. k ≤ count_at texts n) (sym last) (end_within b (count_at texts n)))

-- one character
first_of_part : (xs : List ℕ) (i : ℕ) → get_or (take 1 (drop i xs)) 0 0 ≡ code_of (slice_get xs i)
first_of_part [] zero = refl
first_of_part [] (suc i) = refl
first_of_part (x ∷ xs) zero = refl
first_of_part (x ∷ xs) (suc i) = first_of_part xs i

none_behind : (xs : List ℕ) (i : ℕ) → length xs ≤ i → 0 ≡ code_of (slice_get xs i)
none_behind [] i l = refl
none_behind (x ∷ xs) zero l = absurd (omega (arith, l))
none_behind (x ∷ xs) (suc i) l = none_behind xs i (omega (arith, l))

module _ (kind : FaceKind) (is : kind ≡ chars_kind) (texts : Nodes) (kept : AreContents kind texts) (n i : ℕ) where
  pub code_behind : count_at texts n ≤ i → 0 ≡ code_of (slice_get (text_at texts n).characters i)
  code_behind l = none_behind (text_at texts n).characters i (subst (λ k. k ≤ i) (count_is kind is texts kept n) l)

  pub code_there : (x : List ℕ) → x ≡ part_at texts n i (i + 1) → get_or x 0 0 ≡ code_of (slice_get (text_at texts n).characters i)
  code_there x e =
      let one : (i + 1) - i ≡ 1 = omega arith in
      ap (λ (l : List ℕ). get_or l 0 0) (e ∙ part_is kind is texts kept n i (i + 1) ∙ ap (λ k. take k (drop i (text_at texts n).characters)) one) ∙ first_of_part (text_at texts n).characters i

  pub may_read : i < count_at texts n → HasPart texts n i (i + 1)
  may_read l = has_part kind is texts kept n i (i + 1) (omega arith) (omega (arith, l))

-- the ends of selections are in the text, so they fit
pub one_small : (marks : List (ℕ × ℕ)) (i : ℕ) → AreSmall marks → IsSmall (slice_get marks i)
one_small [] i h = tt
one_small (m ∷ ms) zero h = h.0
one_small (m ∷ ms) (suc i) h = one_small ms i h.1

pub marks_small : (t : TextContents) → IsText t → AreSmall t.selections
marks_small t h = by t.selections h.selections
  where
    by : (marks : List (ℕ × ℕ)) → Each (λ (s : ℕ × ℕ). (s.0 < s.1) × (s.1 ≤ length t.characters)) marks → AreSmall marks
    by [] e = tt
    by (m ∷ ms) e = let l = h.short in let a = e.0.0 in let b = e.0.1 in ((omega (arith, l, a, b), omega (arith, l, b)), by ms e.1)
