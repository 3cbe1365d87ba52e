-- A walk over the pieces of a text.
use Rattle.std.proofs.Common.{◌≡◌, ℕ, ◌+◌, ◌<◌, ◌≤◌, Bool, true, false, ◌&&◌, List, [], ◌∷◌, ◌++◌, map, length, refl, sym, ap, ◌∙◌, arith, append_assoc, append-nil, length-append, encode_utf8_all, chars, IsUtf8}
use Rattle.std.proofs.lemmas.List.Folds.{concat-append}
use Rattle.std.proofs.lemmas.Str.{chars-encodes, scalars-chars}
use Rattle.std.specs.List.{concat}
use Rattle.std.specs.Str.{all_scalars}
use Rattle.unicode_segmentation.specs.Segments.{segments}
use Rattle.unicode_segmentation.specs.Word.{is_word_break, word_bounds}
use Rattle.atspi_units.specs.Units.{units, IsUnitAt}
use Rattle.atspi_units.specs.declared.grain.Grain.TheVariants.{Word}
use Rattle.atspi_units.proofs.CutLemmas.{concat-cut}

both : (a b : Bool) → a && b ≡ true → (a ≡ true) × (b ≡ true)
both true b e = (refl, e)
both false b e = absurd cc

join : (a b : Bool) → a ≡ true → b ≡ true → a && b ≡ true
join true b p q = q
join false b p q = absurd cc

pub scalars-parts : (xs ys : List ℕ) → all_scalars (xs ++ ys) ≡ true → (all_scalars xs ≡ true) × (all_scalars ys ≡ true)
scalars-parts [] ys e = (refl, e)
scalars-parts (x ∷ xs) ys e =
    let first = both _ _ e in
    let rest = scalars-parts xs ys first.1 in
    (join _ _ first.0 rest.0, rest.1)

-- the walk has passed so many pieces, and these are left
pub record IsAmongPieces (text : List ℕ) (left : List (List ℕ)) (start : ℕ) : Type 0 where
  pub done : List (List ℕ)
  pub rest : List (List ℕ)
  pub whole : units Word text ≡ done ++ rest
  pub starts : start ≡ length (concat done)
  pub spelled : map encode_utf8_all rest ≡ left

-- the words are the pieces that the Unicode crate tells
pub words_spelled : (bytes : List ℕ) → map encode_utf8_all (units Word (chars bytes)) ≡ word_bounds bytes
unfolding segments
words_spelled bytes = refl

pub among-start : (bytes : List ℕ) (left : List (List ℕ)) → left ≡ word_bounds bytes → IsAmongPieces (chars bytes) left 0
among-start bytes left e = record { done = []; rest = units Word (chars bytes); whole = refl; starts = refl; spelled = words_spelled bytes ∙ sym e }

-- the next piece
next_piece : (rest : List (List ℕ)) (x : List ℕ) (more : List (List ℕ)) → map encode_utf8_all rest ≡ x ∷ more
    → (p : List ℕ) × (ps : List (List ℕ)) × (rest ≡ p ∷ ps) × (encode_utf8_all p ≡ x) × (map encode_utf8_all ps ≡ more)
next_piece [] x more e = absurd cc
next_piece (p ∷ ps) x more e = (p, ps, refl, cc, cc)

module _ (bytes : List ℕ) (utf8 : IsUtf8 bytes) (left : List (List ℕ)) (start : ℕ) (w : IsAmongPieces (chars bytes) left start)
    (x : List ℕ) (more : List (List ℕ)) (e : left ≡ x ∷ more) where
  abbrev next : (p : List ℕ) × (ps : List (List ℕ)) × (w.rest ≡ p ∷ ps) × (encode_utf8_all p ≡ x) × (map encode_utf8_all ps ≡ more)
  next = next_piece w.rest x more (w.spelled ∙ e)

  parts : units Word (chars bytes) ≡ w.done ++ next.0 ∷ next.1
  parts = w.whole ∙ ap (λ l. w.done ++ l) next.2

  joined : chars bytes ≡ concat w.done ++ (next.0 ++ concat next.1)
  joined = sym (concat-cut is_word_break [] (chars bytes) []) ∙ ap concat parts ∙ concat-append w.done (next.0 ∷ next.1)

  scalars : all_scalars next.0 ≡ true
  scalars =
      let all = scalars-parts (concat w.done) _ (ap all_scalars (sym joined) ∙ scalars-chars bytes utf8) in
      (scalars-parts next.0 (concat next.1) all.1).0

  counted : length (chars x) ≡ length next.0
  counted = ap (λ b. length (chars b)) (sym next.3) ∙ ap length (chars-encodes next.0 scalars)

  -- it fits into the text
  pub among-fits : start + length (chars x) ≤ length (chars bytes)
  among-fits =
      omega (arith, w.starts, counted, ap length joined, length-append (concat w.done) (next.0 ++ concat next.1), length-append next.0 (concat next.1))

  -- it holds a character
  pub word_is : (at : ℕ) → start ≤ at → at < start + length (chars x) → IsUnitAt (units Word (chars bytes)) at start (start + length (chars x))
  word_is at from upto = record {
    before = w.done;
    piece = next.0;
    behind = next.1;
    cut = parts;
    starts = w.starts;
    ends = omega (arith, counted);
    from = from;
    upto = upto;
  }

  -- it is passed
  pub among-more : IsAmongPieces (chars bytes) more (start + length (chars x))
  among-more = record {
    done = w.done ++ next.0 ∷ [];
    rest = next.1;
    whole = parts ∙ sym (append_assoc w.done (next.0 ∷ []) next.1);
    starts =
        omega (arith, w.starts, counted, ap length (concat-append w.done (next.0 ∷ [])), length-append (concat w.done) (next.0 ++ []), ap length (append-nil next.0));
    spelled = next.4;
  }

pub among-all : (text : List ℕ) (left : List (List ℕ)) (start : ℕ) → IsAmongPieces text left start → left ≡ [] → length text ≡ start
among-all text left start w e =
    let none : w.rest ≡ [] = nothing w.rest (w.spelled ∙ e) in
    let joined = sym (concat-cut is_word_break [] text []) ∙ ap concat (w.whole ∙ ap (λ l. w.done ++ l) none ∙ append-nil w.done) in
    omega (arith, w.starts, ap length joined)
  where
    nothing : (ps : List (List ℕ)) → map encode_utf8_all ps ≡ [] → ps ≡ []
    nothing [] e = refl
    nothing (p ∷ ps) e = absurd cc
