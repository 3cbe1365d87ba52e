-- A text in two parts: what moving the gap, putting in and taking out make of it.
use Rattle.std.proofs.Common.{◌≡◌, ℕ, ◌+◌, ◌-◌, ◌<◌, ◌≤◌, min, List, [], ◌++◌, length, take, drop, Ok, ◌⊎◌, inl, inr, ⊎_elim, chars, IsUtf8, refl, sym, ap, subst, ◌∙◌, arith, length-append}
use Rattle.std.proofs.lemmas.List.{append_assoc, append-nil, take-append-le, drop-append-le, take_all, length-take-le, length-drop, take_at, drop_at, drop-drop}
use Rattle.std.proofs.lemmas.Str.{chars-append, IsUtf8-append, IsUtf8-nil, chars-nil}
use Rattle.std.proofs.Math.Seq.{take-add}
use Rattle.std.proofs.lemmas.Bool.{cases_lt}
use Rattle.atspi_base.specs.Text.{HasNoZero, bytes_before_zero}
use Rattle.atspi_base.specs.ReadsText.{text_in}
use Rattle.atspi_base.proofs.TextLemmas.{whole, length-chars-le}
use Rattle.atspi_base.specs.Places.{CutAt}
use Rattle.atspi_faces.specs.Gap.{IsPart, IsGapped, text_of}
use Rattle.atspi_base.proofs.PlaceLemmas.{no_zero-append, no_zero-take, no_zero-drop}

-- no more characters than bytes
pub gapped_fits : (parts : List ℕ × List ℕ) (before behind : ℕ) → IsGapped parts before behind → before + behind < 4294967296
gapped_fits parts before behind is =
    omega (arith, is.fits, is.front.counted, is.back.counted, length-chars-le parts.0 is.front.utf8, length-chars-le parts.1 is.back.utf8)

pub gapped_count : (parts : List ℕ × List ℕ) (before behind : ℕ) → IsGapped parts before behind → length (text_of parts) ≡ before + behind
gapped_count parts before behind is = omega (arith, length-append (chars parts.0) (chars parts.1), is.front.counted, is.back.counted)

part_same : (bs ds : List ℕ) (n m : ℕ) → ds ≡ bs → m ≡ n → IsPart bs n → IsPart ds m
part_same bs ds n m e f is = record {
  utf8 = subst IsUtf8 (sym e) is.utf8;
  no_zero = subst HasNoZero (sym e) is.no_zero;
  counted = f ∙ is.counted ∙ ap (λ l. length (chars l)) (sym e);
}

part_taken : (bs : List ℕ) (told n p : ℕ) → IsPart bs told → n ≤ told → CutAt bs n p → IsPart (take p bs) n
part_taken bs told n p is le cut = record {
  utf8 = cut.front_utf8;
  no_zero = no_zero-take p bs is.no_zero;
  counted = omega (arith, ap length cut.front, length-take-le n (chars bs) (omega (arith, is.counted, le)));
}

part_dropped : (bs : List ℕ) (told n p : ℕ) → IsPart bs told → n ≤ told → CutAt bs n p → IsPart (drop p bs) (told - n)
part_dropped bs told n p is le cut = record {
  utf8 = cut.back_utf8;
  no_zero = no_zero-drop p bs is.no_zero;
  counted = omega (arith, ap length cut.back, length-drop n (chars bs), is.counted);
}

part_joined : (xs ys : List ℕ) (n m : ℕ) → IsPart xs n → IsPart ys m → IsPart (xs ++ ys) (n + m)
part_joined xs ys n m p q = record {
  utf8 = IsUtf8-append xs ys p.utf8 q.utf8;
  no_zero = no_zero-append xs ys p.no_zero q.no_zero;
  counted = omega (arith, p.counted, q.counted, ap length (chars-append xs ys p.utf8), length-append (chars xs) (chars ys));
}

take_beyond : (xs ys : List ℕ) (n k : ℕ) → n ≡ length xs → take (n + k) (xs ++ ys) ≡ xs ++ take k ys
take_beyond xs ys n k e = take-add n k (xs ++ ys) ∙ ap (λ l. l ++ take k (drop n (xs ++ ys))) (take_at xs ys n (sym e)) ∙ ap (λ l. xs ++ take k l) (drop_at xs ys n (sym e))

drop_beyond : (xs ys : List ℕ) (n k : ℕ) → n ≡ length xs → drop (n + k) (xs ++ ys) ≡ drop k ys
drop_beyond xs ys n k e = sym (drop-drop k n (xs ++ ys)) ∙ ap (drop k) (drop_at xs ys n (sym e))

-- a text before an empty gap
pub fresh : (parts : List ℕ × List ℕ) (bs : List ℕ) (told : ℕ) → parts.0 ≡ bs → parts.1 ≡ [] → IsUtf8 bs → HasNoZero bs → told ≡ length (chars bs) → length bs < 4294967296 → IsGapped parts told 0 × (text_of parts ≡ chars bs)
fresh parts bs told e f u no_zero counted fits = (
  record {
    front = part_same bs parts.0 told told e refl (record { utf8 = u; no_zero = no_zero; counted = counted });
    back = part_same [] parts.1 0 0 f refl (record { utf8 = IsUtf8-nil; no_zero = refl; counted = ap length (sym chars-nil) });
    fits = omega (arith, ap length e, ap length f, fits);
  },
  ap (λ l. chars l ++ chars parts.1) e ∙ ap (λ l. chars bs ++ chars l) f ∙ ap (λ l. chars bs ++ l) chars-nil ∙ append-nil (chars bs),
)

-- the gap moved to a place before it
pub record Moved (old new : List ℕ × List ℕ) (before behind at : ℕ) : Type 0 where
  pub gapped : IsGapped new at (before + behind - at)
  pub front : chars new.0 ≡ take at (text_of old)
  pub back : chars new.1 ≡ drop at (text_of old)
  pub bytes : length new.0 + length new.1 ≡ length old.0 + length old.1

pub moved_left : (old new : List ℕ × List ℕ) (before behind at p : ℕ) → IsGapped old before behind → at ≤ before → CutAt old.0 at p → new.0 ≡ take p old.0 → new.1 ≡ drop p old.0 ++ old.1 → Moved old new before behind at
moved_left old new before behind at p is le cut e f =
    let told : before ≡ length (chars old.0) = is.front.counted in
    let bytes : length new.0 + length new.1 ≡ length old.0 + length old.1 = omega (arith, ap length e, ap length f, length-append (drop p old.0) old.1, length-take-le p old.0 cut.within, length-drop p old.0, cut.within) in
    let rest : before + behind - at ≡ before - at + behind = omega (arith, le) in
    record {
      gapped = record {
        front = part_same (take p old.0) new.0 at at e refl (part_taken old.0 before at p is.front le cut);
        back = part_same (drop p old.0 ++ old.1) new.1 (before - at + behind) (before + behind - at) f rest (part_joined (drop p old.0) old.1 (before - at) behind (part_dropped old.0 before at p is.front le cut) is.back);
        fits = omega (arith, bytes, is.fits);
      };
      front = ap chars e ∙ cut.front ∙ sym (take-append-le at (chars old.0) (chars old.1) (omega (arith, told, le)));
      back = ap chars f ∙ chars-append (drop p old.0) old.1 cut.back_utf8 ∙ ap (λ l. l ++ chars old.1) cut.back ∙ sym (drop-append-le at (chars old.0) (chars old.1) (omega (arith, told, le)));
      bytes = bytes;
    }

pub moved_right : (old new : List ℕ × List ℕ) (before behind at p : ℕ) → IsGapped old before behind → before < at → at ≤ before + behind → CutAt old.1 (at - before) p → new.0 ≡ old.0 ++ take p old.1 → new.1 ≡ drop p old.1 → Moved old new before behind at
moved_right old new before behind at p is lt le cut e f =
    let told : before ≡ length (chars old.0) = is.front.counted in
    let k : before + (at - before) ≡ at = omega (arith, lt) in
    let bytes : length new.0 + length new.1 ≡ length old.0 + length old.1 = omega (arith, ap length e, ap length f, length-append old.0 (take p old.1), length-take-le p old.1 cut.within, length-drop p old.1, cut.within) in
    record {
      gapped = record {
        front = part_same (old.0 ++ take p old.1) new.0 (before + (at - before)) at e (sym k) (part_joined old.0 (take p old.1) before (at - before) is.front (part_taken old.1 behind (at - before) p is.back (omega (arith, le, lt)) cut));
        back = part_same (drop p old.1) new.1 (behind - (at - before)) (before + behind - at) f (omega (arith, le, lt)) (part_dropped old.1 behind (at - before) p is.back (omega (arith, le, lt)) cut);
        fits = omega (arith, bytes, is.fits);
      };
      front = ap chars e ∙ chars-append old.0 (take p old.1) is.front.utf8 ∙ ap (λ l. chars old.0 ++ l) cut.front
          ∙ sym (take_beyond (chars old.0) (chars old.1) before (at - before) told) ∙ ap (λ n. take n (text_of old)) k;
      back = ap chars f ∙ cut.back ∙ sym (drop_beyond (chars old.0) (chars old.1) before (at - before) told) ∙ ap (λ n. drop n (text_of old)) k;
      bytes = bytes;
    }

-- bytes put in before the gap
pub put_in : (old new : List ℕ × List ℕ) (xs : List ℕ) (before behind more : ℕ) → IsGapped old before behind → new.0 ≡ old.0 ++ xs → new.1 ≡ old.1 → IsUtf8 xs → HasNoZero xs → more ≡ length (chars xs) → length old.0 + length old.1 + length xs < 4294967296 → IsGapped new (before + more) behind × (text_of new ≡ chars old.0 ++ (chars xs ++ chars old.1))
put_in old new xs before behind more is e f u no_zero counted fits = (
  record {
    front = part_same (old.0 ++ xs) new.0 (before + more) (before + more) e refl (part_joined old.0 xs before more is.front (record { utf8 = u; no_zero = no_zero; counted = counted }));
    back = part_same old.1 new.1 behind behind f refl is.back;
    fits = omega (arith, ap length e, ap length f, length-append old.0 xs, fits);
  },
  ap (λ l. chars l ++ chars new.1) e ∙ ap (λ l. chars (old.0 ++ xs) ++ chars l) f
      ∙ ap (λ l. l ++ chars old.1) (chars-append old.0 xs is.front.utf8) ∙ append_assoc (chars old.0) (chars xs) (chars old.1),
)

-- bytes taken out behind it
pub cut_off : (old new : List ℕ × List ℕ) (before behind n p : ℕ) → IsGapped old before behind → n ≤ behind → CutAt old.1 n p → new.0 ≡ old.0 → new.1 ≡ drop p old.1 → IsGapped new before (behind - n)
cut_off old new before behind n p is le cut e f = record {
  front = part_same old.0 new.0 before before e refl is.front;
  back = part_same (drop p old.1) new.1 (behind - n) (behind - n) f refl (part_dropped old.1 behind n p is.back le cut);
  fits = omega (arith, ap length e, ap length f, length-drop p old.1, is.fits);
}

-- what stands between two places of a text in two parts
within_front : (xs ys : List ℕ) (from to : ℕ) → from ≤ to → to ≤ length xs → take (to - from) (drop from (xs ++ ys)) ≡ take (to - from) (drop from xs)
within_front xs ys from to le lt =
    ap (take (to - from)) (drop-append-le from xs ys (omega arith)) ∙ take-append-le (to - from) (drop from xs) ys (omega (arith, length-drop from xs))

within_back : (xs ys : List ℕ) (n from to : ℕ) → n ≡ length xs → n ≤ from → take (to - from) (drop from (xs ++ ys)) ≡ take (to - from) (drop (from - n) ys)
within_back xs ys n from to e le =
    let k : n + (from - n) ≡ from = omega (arith, le) in
    ap (λ m. take (to - from) (drop m (xs ++ ys))) (sym k) ∙ ap (take (to - from)) (drop_beyond xs ys n (from - n) e)

across : (xs ys : List ℕ) (n from to : ℕ) → n ≡ length xs → from ≤ n → n ≤ to → take (to - from) (drop from (xs ++ ys)) ≡ drop from xs ++ take (to - n) ys
across xs ys n from to e le lt =
    let k : n - from + (to - n) ≡ to - from = omega (arith, le, lt) in
    ap (take (to - from)) (drop-append-le from xs ys (omega (arith, e, le))) ∙ ap (λ m. take m (drop from xs ++ ys)) (sym k)
    ∙ take_beyond (drop from xs) ys (n - from) (to - n) (omega (arith, e, length-drop from xs))

pub window : (xs ys : List ℕ) (n from to a b c d : ℕ) → n ≡ length xs → from ≤ to → a ≡ min from n → b ≡ min to n → c ≡ from - n → d ≡ to - n → take (b - a) (drop a xs) ++ take (d - c) (drop c ys) ≡ take (to - from) (drop from (xs ++ ys))
window xs ys n from to a b c d e le ea eb ec ed =
    ⊎_elim
    (λ (in' : to ≤ n).
    let a_is : a ≡ from = omega (arith, ea, in', le) in
    let none : d - c ≡ 0 = omega (arith, ec, ed, in', le) in
    let len : b - a ≡ to - from = omega (arith, ea, eb, in', le) in
    ap (λ m. take m (drop a xs) ++ take (d - c) (drop c ys)) len
    ∙ ap (λ m. take (to - from) (drop m xs) ++ take (d - c) (drop c ys)) a_is
    ∙ ap (λ m. take (to - from) (drop from xs) ++ take m (drop c ys)) none
    ∙ append-nil (take (to - from) (drop from xs))
    ∙ sym (within_front xs ys from to le (omega (arith, e, in'))))
    (λ (past : n ≤ to). ⊎_elim
    (λ (behind : n ≤ from).
    let none : b - a ≡ 0 = omega (arith, ea, eb, past, behind) in
    let len : d - c ≡ to - from = omega (arith, ec, ed, past, behind) in
    ap (λ m. take m (drop a xs) ++ take (d - c) (drop c ys)) none
    ∙ ap (λ m. take m (drop c ys)) len
    ∙ ap (λ m. take (to - from) (drop m ys)) ec
    ∙ sym (within_back xs ys n from to e behind))
    (λ (before : from ≤ n).
    let a_is : a ≡ from = omega (arith, ea, before) in
    let len : b - a ≡ n - from = omega (arith, ea, eb, past, before) in
    let c_is : c ≡ 0 = omega (arith, ec, before) in
    let d_is : d - c ≡ to - n = omega (arith, ec, ed, before) in
    ap (λ m. take m (drop a xs) ++ take (d - c) (drop c ys)) len
    ∙ ap (λ m. take (n - from) (drop m xs) ++ take (d - c) (drop c ys)) a_is
    ∙ ap (λ l. l ++ take (d - c) (drop c ys)) (take_all (n - from) (drop from xs) (omega (arith, e, length-drop from xs)))
    ∙ ap (λ m. drop from xs ++ take m (drop c ys)) d_is
    ∙ ap (λ m. drop from xs ++ take (to - n) (drop m ys)) c_is
    ∙ sym (across xs ys n from to e before past))
    (cases_le n from))
    (cases_le to n)
  where
    cases_le : (m k : ℕ) → (m ≤ k) ⊎ (k ≤ m)
    cases_le m k = ⊎_elim (λ (h : m < k). inl (omega arith)) (λ (h : k ≤ m). inr h) (cases_lt m k)

-- two pieces read as the text of their characters
pub pieces_read : (xs ys all cs : List ℕ) → IsUtf8 xs → HasNoZero xs → IsUtf8 ys → HasNoZero ys → all ≡ xs ++ ys → chars xs ++ chars ys ≡ cs → text_in all ≡ Ok cs
pieces_read xs ys all cs u p v q e same =
    let utf8 : IsUtf8 all = subst IsUtf8 (sym e) (IsUtf8-append xs ys u v) in
    let clean : HasNoZero all = subst HasNoZero (sym e) (no_zero-append xs ys p q) in
    whole all (bytes_before_zero all) utf8 refl (omega (arith, clean)) ∙ ap Ok (ap chars e ∙ chars-append xs ys u ∙ same)

pub text_same : (p q : List ℕ × List ℕ) → p.0 ≡ q.0 → p.1 ≡ q.1 → text_of p ≡ text_of q
text_same p q e f = ap (λ l. chars l ++ chars p.1) e ∙ ap (λ l. chars q.0 ++ chars l) f
