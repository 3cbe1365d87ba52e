-- The pieces of a part between two places where a unit surely ends are those of the part alone.
use Rattle.std.proofs.Common.{◌≡◌, ℕ, ◌+◌, ◌<◌, ◌⊎◌, inl, inr, Bool, true, cond, List, [], ◌∷◌, ◌++◌, length, refl, sym, ap, ap₂, ◌∙◌, arith, append_assoc, append-nil, length-append}
use Rattle.std.proofs.lemmas.List.Folds.{concat-append}
use Rattle.std.specs.List.{concat}
use Rattle.unicode_segmentation.specs.Segments.{Rule, prepend, cut}
use Rattle.ucd_breaks.specs.WordBreak.{word_break}
use Rattle.atspi_units.specs.Units.{ends_unit, ends_line, IsUnitAt}
use Rattle.atspi_units.specs.declared.grain.Grain.{Grain}
use Rattle.atspi_units.specs.declared.grain.Grain.TheVariants.{Char, Word, Line}
use Rattle.atspi_units.specs.inner.Seams.{ends_surely, AreApart}
use Rattle.atspi_units.proofs.CutLemmas.{onto, onto-push, cut-seam, cut-single, concat-cut}
use Rattle.atspi_units.proofs.PlainLemmas.{word_break-left, word_break-right, word_break-sure, plain_from_ends}

-- a unit ends between the two characters, and the rule reads over neither from the other side
record IsSeam (rule : Rule) (x y : ℕ) : Type 0 where
  ends : (b a : List ℕ) → rule (x ∷ b) (y ∷ a) ≡ true
  left : (c : ℕ) (p b rest : List ℕ) → rule (c ∷ (p ++ x ∷ b)) rest ≡ rule (c ∷ p) rest
  right : (c : ℕ) (b rest a : List ℕ) → rule (c ∷ b) ((rest ++ x ∷ []) ++ a) ≡ rule (c ∷ b) (rest ++ x ∷ [])

line_left : (c : ℕ) (p q rest : List ℕ) → ends_line (c ∷ p) rest ≡ ends_line (c ∷ q) rest
line_left c p q [] = refl
line_left c p q (n ∷ rest) = refl

line_right : (c x : ℕ) (b rest a : List ℕ) → ends_line (c ∷ b) ((rest ++ x ∷ []) ++ a) ≡ ends_line (c ∷ b) (rest ++ x ∷ [])
line_right c x b [] a = refl
line_right c x b (n ∷ rest) a = refl

seam_of : (unit : Grain) (x y : ℕ) → ends_surely unit x y ≡ true → IsSeam (ends_unit unit) x y
seam_of Char x y h = record { ends = λ b a. refl; left = λ c p b rest. refl; right = λ c b rest a. refl }
seam_of Word x y h =
    let plain = plain_from_ends (word_break x) (word_break y) h in
    record {
      ends = λ b a. word_break-sure x y b a h;
      left = λ c p b rest. word_break-left c x p b rest plain;
      right = λ c b rest a. word_break-right c x b rest a plain;
    }
seam_of Line x y h = record {
  ends = λ b a. h;
  left = λ c p b rest. line_left c (p ++ x ∷ b) p rest;
  right = λ c b rest a. line_right c x b rest a;
}

abbrev attach : Bool → List ℕ → List (List ℕ) → List (List ℕ)
attach ends part pieces = cond ends (part ∷ pieces) (prepend part pieces)

module _ (rule : Rule) (x y : ℕ) (seam : IsSeam rule x y) where
  cut-left : (p b cs after : List ℕ) → cut rule (p ++ x ∷ b) cs after ≡ cut rule p cs after
  unfolding cut
  cut-left p b [] after = refl
  cut-left p b (c ∷ cs) after = ap₂ (λ e ps. attach e (c ∷ []) ps) (seam.left c p b (cs ++ after)) (cut-left (c ∷ p) b cs after)

  cut-right : (before cs a : List ℕ) → cut rule before (cs ++ x ∷ []) a ≡ cut rule before (cs ++ x ∷ []) []
  unfolding cut
  cut-right before [] a = cut-single rule before x a ∙ sym (cut-single rule before x [])
  cut-right before (c ∷ cs) a =
      ap₂ (λ e ps. attach e (c ∷ []) ps)
      (seam.right c before cs a ∙ ap (rule (c ∷ before)) (sym (append-nil (cs ++ x ∷ []))))
      (cut-right (c ∷ before) cs a)

-- nothing stands on the one side, or a unit ends between
abbrev pub Begins : Grain → List ℕ → List ℕ → Type 0
Begins unit before rest = (before ≡ []) ⊎ AreApart unit before rest

abbrev pub Stops : Grain → List ℕ → List ℕ → Type 0
Stops unit front behind = (behind ≡ []) ⊎ AreApart unit front behind

-- what stands before a part is not read
middle-left : (unit : Grain) (before middle : List ℕ) → Begins unit before middle
    → cut (ends_unit unit) (onto before []) middle [] ≡ cut (ends_unit unit) [] middle []
middle-left unit before middle (inl e) = ap (λ b. cut (ends_unit unit) (onto b []) middle []) e
middle-left unit before middle (inr s) =
    ap (λ b. cut (ends_unit unit) b middle []) (ap (λ b. onto b []) s.first ∙ onto-push s.front [] s.left)
    ∙ cut-left (ends_unit unit) s.left s.right (seam_of unit s.left s.right s.sure) [] (onto s.front []) middle []

-- nor what stands behind it
middle-right : (unit : Grain) (before middle behind : List ℕ) → Stops unit middle behind
    → cut (ends_unit unit) before (middle ++ behind) [] ≡ cut (ends_unit unit) before middle [] ++ cut (ends_unit unit) (onto middle before) behind []
unfolding cut
middle-right unit before middle behind (inl e) =
    ap (λ l. cut (ends_unit unit) before (middle ++ l) []) e ∙ ap (λ l. cut (ends_unit unit) before l []) (append-nil middle)
    ∙ sym (append-nil (cut (ends_unit unit) before middle []))
    ∙ ap (λ l. cut (ends_unit unit) before middle [] ++ cut (ends_unit unit) (onto middle before) l []) (sym e)
middle-right unit before middle behind (inr s) =
    let rule = ends_unit unit in
    let seam = seam_of unit s.left s.right s.sure in
    let rest = cut rule (onto middle before) behind [] in
    cut-seam rule before middle behind []
    (λ some. ap₂ (λ b a. rule b (a ++ [])) (ap (λ m. onto m before) s.first ∙ onto-push s.front before s.left) s.second
    ∙ seam.ends (onto s.front before) (s.back ++ []))
    ∙ ap (λ l. l ++ rest)
    (ap (λ m. cut rule before m (behind ++ [])) s.first ∙ cut-right rule s.left s.right seam before s.front (behind ++ [])
    ∙ ap (λ m. cut rule before m []) (sym s.first))

begins_over : (unit : Grain) (before middle behind : List ℕ) → Begins unit before middle → Begins unit before (middle ++ behind)
begins_over unit before middle behind (inl e) = inl e
begins_over unit before middle behind (inr s) =
    inr (record { front = s.front; left = s.left; right = s.right; back = s.back ++ behind; first = s.first; second = ap (λ l. l ++ behind) s.second; sure = s.sure })

first_seam : (unit : Grain) (before rest : List ℕ) → Begins unit before rest → 0 < length before → ends_unit unit (onto before []) (rest ++ []) ≡ true
first_seam unit before rest (inl e) some = absurd (omega (arith, ap length e))
first_seam unit before rest (inr s) some =
    ap₂ (λ b a. ends_unit unit b (a ++ [])) (ap (λ m. onto m []) s.first ∙ onto-push s.front [] s.left) s.second
    ∙ (seam_of unit s.left s.right s.sure).ends (onto s.front []) (s.back ++ [])

-- the pieces of a text with such a part in it
parts : (unit : Grain) (before middle behind : List ℕ) → Begins unit before middle → Stops unit middle behind
    → cut (ends_unit unit) [] (before ++ (middle ++ behind)) []
    ≡ cut (ends_unit unit) [] before ((middle ++ behind) ++ []) ++ (cut (ends_unit unit) [] middle [] ++ cut (ends_unit unit) (onto middle (onto before [])) behind [])
parts unit before middle behind begins stops =
    let rule = ends_unit unit in
    cut-seam rule [] before (middle ++ behind) [] (first_seam unit before (middle ++ behind) (begins_over unit before middle behind begins))
    ∙ ap (λ l. cut rule [] before ((middle ++ behind) ++ []) ++ l)
    (middle-right unit (onto before []) middle behind stops
    ∙ ap (λ l. l ++ cut rule (onto middle (onto before [])) behind []) (middle-left unit before middle begins))

-- a piece of the part is a piece of the text
pub unit_in_part : (unit : Grain) (before middle behind : List ℕ) (at start end : ℕ) → Begins unit before middle → Stops unit middle behind
    → IsUnitAt (cut (ends_unit unit) [] middle []) at start end
    → IsUnitAt (cut (ends_unit unit) [] (before ++ (middle ++ behind)) []) (length before + at) (length before + start) (length before + end)
unit_in_part unit before middle behind at start end begins stops u =
    let rule = ends_unit unit in
    let first = cut rule [] before ((middle ++ behind) ++ []) in
    let last = cut rule (onto middle (onto before [])) behind [] in
    let count : length (concat first) ≡ length before = ap length (concat-cut rule [] before ((middle ++ behind) ++ [])) in
    record {
      before = first ++ u.before;
      piece = u.piece;
      behind = u.behind ++ last;
      cut =
          parts unit before middle behind begins stops
          ∙ ap (λ l. first ++ l) (ap (λ l. l ++ last) u.cut ∙ append_assoc u.before (u.piece ∷ u.behind) last)
          ∙ sym (append_assoc first u.before (u.piece ∷ (u.behind ++ last)));
      starts = omega (arith, u.starts, count, ap length (concat-append first u.before), length-append (concat first) (concat u.before));
      ends = omega (arith, u.ends);
      from = omega (arith, u.from);
      upto = omega (arith, u.upto);
    }

-- more text on either side of parts that are apart
pub apart_before : (unit : Grain) (front before rest : List ℕ) → AreApart unit before rest → AreApart unit (front ++ before) rest
apart_before unit front before rest s = record {
  front = front ++ s.front;
  left = s.left;
  right = s.right;
  back = s.back;
  first = ap (λ l. front ++ l) s.first ∙ sym (append_assoc front s.front (s.left ∷ []));
  second = s.second;
  sure = s.sure;
}

pub apart_behind : (unit : Grain) (front rest behind : List ℕ) → AreApart unit front rest → AreApart unit front (rest ++ behind)
apart_behind unit front rest behind s = record {
  front = s.front;
  left = s.left;
  right = s.right;
  back = s.back ++ behind;
  first = s.first;
  second = ap (λ l. l ++ behind) s.second;
  sure = s.sure;
}

-- a part that begins the other one, and is not empty
pub apart_shorter : (unit : Grain) (before middle behind : List ℕ) → AreApart unit before (middle ++ behind) → 0 < length middle → AreApart unit before middle
apart_shorter unit before [] behind s some = absurd (omega arith)
apart_shorter unit before (m ∷ ms) behind s some =
    let same : m ≡ s.right = head_is m (ms ++ behind) s.right s.back s.second in
    record { front = s.front; left = s.left; right = s.right; back = ms; first = s.first; second = ap (λ c. c ∷ ms) same; sure = s.sure }
  where
    head_is : (a : ℕ) (cs : List ℕ) (b : ℕ) (ds : List ℕ) → a ∷ cs ≡ b ∷ ds → a ≡ b
    head_is a cs b ds e = cc
