-- A walk over a window, and the stretch between two places where a unit surely ends.
use Rattle.std.proofs.Common.{◌≡◌, ℕ, ◌+◌, ◌-◌, ◌*◌, ◌<◌, ◌≤◌, ◌⊎◌, inl, inr, Bool, true, false, not, List, [], ◌∷◌, ◌++◌, length, take, drop, slice_range, refl, sym, ap, ap₂, subst, ◌∙◌, arith, append_assoc, append-nil, length-append, encode_utf8, encode_utf8_all, chars, IsUtf8, Option, Some, None, MatchOption, IsSome}
use mathlib.Core.Bool.{false≢true}
use Rattle.std.proofs.lemmas.List.{nil_from_length, take_at, drop_at}
use Rattle.std.proofs.lemmas.Str.{cons_from_encodes, length-le-encodes, encodes-append, encodes-chars, chars-encodes, scalars-chars, IsCharBoundary-at_seam}
use Rattle.std.specs.Str.{IsCharBoundary, all_scalars}
use Rattle.atspi_units.specs.Units.{units, IsUnitAt}
use Rattle.atspi_units.specs.Windows.{IsUnitWithin}
use Rattle.atspi_units.specs.declared.grain.Grain.{Grain}
use Rattle.atspi_units.specs.declared.window.Reaches.{Reaches}
use Rattle.atspi_units.specs.declared.stretch.Place.{Place}
use Rattle.atspi_units.specs.declared.stretch.Stretch.{Stretch}
use Rattle.atspi_units.specs.inner.Seams.{ends_behind, AreApart}
use Rattle.atspi_units.specs.inner.Stretches.{IsPlaceBehind, IsOpen, IsStretch, IsLast}
use Rattle.atspi_units.proofs.SeamLemmas.{Begins, Stops, unit_in_part, apart_before, apart_behind, apart_shorter}
use Rattle.atspi_units.proofs.WordLemmas.{scalars-parts}

-- the walk has passed so many characters, and these bytes are left
pub record IsScanned (window rest : List ℕ) (here : Place) (last : Option ℕ) : Type 0 where
  pub done : List ℕ
  pub left : List ℕ
  pub whole : window ≡ done ++ left
  pub place : IsPlaceBehind done here
  pub spelled : encode_utf8_all left ≡ rest
  pub ended : IsLast done last
  pub narrow : here.bytes ≤ 4 * here.chars

pub scanned-start : (window rest : List ℕ) (here : Place) → here.chars ≡ 0 → here.bytes ≡ 0 → encode_utf8_all window ≡ rest → IsScanned window rest here None
scanned-start window rest here c b e = record { done = []; left = window; whole = refl; place = record { chars = c; bytes = b }; spelled = e; ended = refl; narrow = omega (arith, c, b) }

module _ (window rest more : List ℕ) (here : Place) (last : Option ℕ) (c : ℕ) (w : IsScanned window rest here last) (e : rest ≡ encode_utf8 c ++ more) where
  abbrev next : (es : List ℕ) × (w.left ≡ c ∷ es) × (encode_utf8_all es ≡ more)
  next = cons_from_encodes w.left more c (w.spelled ∙ e)

  pub scanned-more : (there : Place) → there.chars ≡ here.chars + 1 → there.bytes ≡ here.bytes + length (encode_utf8 c) → there.bytes ≤ 4 * there.chars → IsScanned window more there (Some c)
  scanned-more there counts takes narrow = record {
    done = w.done ++ c ∷ [];
    left = next.0;
    whole = w.whole ∙ ap (λ l. w.done ++ l) next.1 ∙ sym (append_assoc w.done (c ∷ []) next.0);
    place = record {
      chars = omega (arith, counts, w.place.chars, length-append w.done (c ∷ []));
      bytes =
          omega (arith, takes, w.place.bytes, ap length (encodes-append w.done (c ∷ [])), length-append (encode_utf8_all w.done) (encode_utf8 c ++ []), ap length (append-nil (encode_utf8 c)));
    };
    spelled = next.2;
    ended = (w.done, refl);
    narrow = narrow;
  }

  pub scanned-fits : (here.chars + 1 ≤ length window) × (here.bytes + length (encode_utf8 c) ≤ length (encode_utf8_all window))
  scanned-fits =
      let whole = w.whole ∙ ap (λ l. w.done ++ l) next.1 in (
        omega (arith, w.place.chars, ap length whole, length-append w.done (c ∷ next.0)),
        omega (arith, w.place.bytes, ap length (ap encode_utf8_all whole ∙ encodes-append w.done (c ∷ next.0)), length-append (encode_utf8_all w.done) (encode_utf8_all (c ∷ next.0)), length-append (encode_utf8 c) (encode_utf8_all next.0)),
      )

  -- a unit surely ends here
  pub scanned-apart : (unit : Grain) → ends_behind unit last c ≡ true → AreApart unit w.done w.left
  scanned-apart unit sure = by_last last w.ended sure
    where
      by_last : (o : Option ℕ) → IsLast w.done o → ends_behind unit o c ≡ true → AreApart unit w.done w.left
      by_last None l s = absurd cc
      by_last (Some x) l s = record { front = l.0; left = x; right = c; back = next.0; first = l.1; second = next.1; sure = s }

pub open-start : (unit : Grain) (window : List ℕ) (reaches : Reaches) (from : Place) → from.chars ≡ 0 → from.bytes ≡ 0 → reaches.start ≡ true → IsOpen unit window reaches from
open-start unit window reaches from c b r = record { before = []; rest = window; whole = refl; place = record { chars = c; bytes = b }; apart = inl (refl, r) }

pub open-here : (unit : Grain) (window rest : List ℕ) (reaches : Reaches) (here : Place) (last : Option ℕ) (w : IsScanned window rest here last) → AreApart unit w.done w.left
    → IsOpen unit window reaches here
open-here unit window rest reaches here last w apart = record { before = w.done; rest = w.left; whole = w.whole; place = w.place; apart = inr apart }

-- what is known of where a stretch may begin: it is at most the character's place, and told where the window reaches the
-- start of the text
pub record IsOpened (unit : Grain) (window : List ℕ) (reaches : Reaches) (at : ℕ) (o : Option Place) : Type 0 where
  pub found : MatchOption o (Unit {0}) (λ from. IsOpen unit window reaches from × (from.chars ≤ at))
  pub told : reaches.start ≡ true → IsSome o

module _ (unit : Grain) (window : List ℕ) (reaches : Reaches) (at : ℕ) (o : Option Place) where
  pub opened-some : (from : Place) → o ≡ Some from → IsOpen unit window reaches from → from.chars ≤ at → IsOpened unit window reaches at o
  opened-some from e h le = subst (IsOpened unit window reaches at) (sym e) (record { found = (h, le); told = λ _. refl })

  pub opened-none : o ≡ None → reaches.start ≡ false → IsOpened unit window reaches at o
  opened-none e inside = subst (IsOpened unit window reaches at) (sym e) (record { found = tt; told = λ start. cc })

  pub opened-is : (from : Place) → IsOpened unit window reaches at o → o ≡ Some from → IsOpen unit window reaches from × (from.chars ≤ at)
  opened-is from h e = (subst (IsOpened unit window reaches at) e h).found

  pub opened-told : IsOpened unit window reaches at o → o ≡ None → reaches.start ≡ true → ⊥
  opened-told h e start = let some = (subst (IsOpened unit window reaches at) e h).told start in cc

-- the one front begins the other
longer : (xs ys us vs : List ℕ) → xs ++ ys ≡ us ++ vs → length xs ≤ length us → (ms : List ℕ) × (us ≡ xs ++ ms) × (ys ≡ ms ++ vs)
longer [] ys us vs e le = (us, refl, e)
longer (x ∷ xs) ys [] vs e le = absurd (omega arith)
longer (x ∷ xs) ys (u ∷ us) vs e le =
    let head : x ≡ u = cc in
    let tail : xs ++ ys ≡ us ++ vs = cc in
    let rest = longer xs ys us vs tail (omega arith) in
    (rest.0, ap₂ ◌∷◌ (sym head) rest.1, rest.2)

-- the stretch from an open place up to here
module _ (unit : Grain) (window rest : List ℕ) (reaches : Reaches) (from here : Place) (last : Option ℕ) (at : ℕ) (o : IsOpen unit window reaches from)
    (w : IsScanned window rest here last) (low : from.chars ≤ at) (high : at < here.chars) where
  abbrev between : (ms : List ℕ) × (w.done ≡ o.before ++ ms) × (o.rest ≡ ms ++ w.left)
  between = longer o.before o.rest w.done w.left (sym o.whole ∙ w.whole) (omega (arith, o.place.chars, w.place.chars, low, high))

  some : 0 < length between.0
  some = omega (arith, o.place.chars, w.place.chars, low, high, ap length between.1, length-append o.before between.0)

  first : ((o.before ≡ []) × (reaches.start ≡ true)) ⊎ AreApart unit o.before between.0
  first = by_case o.apart
    where
      by_case : ((o.before ≡ []) × (reaches.start ≡ true)) ⊎ AreApart unit o.before o.rest → ((o.before ≡ []) × (reaches.start ≡ true)) ⊎ AreApart unit o.before between.0
      by_case (inl e) = inl e
      by_case (inr s) = inr (apart_shorter unit o.before between.0 w.left (subst (AreApart unit o.before) between.2 s) some)

  stretch : ((w.left ≡ []) × (reaches.end ≡ true)) ⊎ AreApart unit between.0 w.left → IsStretch unit window reaches at (record { from = from; to = here })
  stretch stops = record {
    before = o.before;
    middle = between.0;
    behind = w.left;
    whole = o.whole ∙ ap (λ l. o.before ++ l) between.2;
    from = o.place;
    to = subst (λ l. IsPlaceBehind l here) between.1 w.place;
    first = first;
    last = stops;
    holds = (low, high);
  }

  -- a front that is left out, where something is left in
  later : (xs ms : List ℕ) (c : ℕ) (front : List ℕ) → xs ++ ms ≡ front ++ c ∷ [] → 0 < length ms → (f : List ℕ) × (ms ≡ f ++ c ∷ [])
  later xs ms c front e some =
      let cut = longer xs ms front (c ∷ []) e (omega (arith, ap length e, length-append xs ms, length-append front (c ∷ []), some)) in
      (cut.0, cut.2)

  pub stretch-apart : AreApart unit w.done w.left → IsStretch unit window reaches at (record { from = from; to = here })
  stretch-apart s =
      let tail = later o.before between.0 s.left s.front (sym between.1 ∙ s.first) some in
      stretch (inr (record { front = tail.0; left = s.left; right = s.right; back = s.back; first = tail.1; second = s.second; sure = s.sure }))

  pub stretch-end : length rest ≡ 0 → reaches.end ≡ true → IsStretch unit window reaches at (record { from = from; to = here })
  stretch-end none r = stretch (inl (nil_from_length w.left (omega (arith, length-le-encodes w.left, ap length w.spelled, none)), r))

-- where the walk ends it has passed the window
pub scanned-all : (window rest : List ℕ) (here : Place) (last : Option ℕ) → IsScanned window rest here last → length rest ≡ 0 → here.chars ≡ length window
scanned-all window rest here last w none =
    let left = nil_from_length w.left (omega (arith, length-le-encodes w.left, ap length w.spelled, none)) in
    omega (arith, w.place.chars, ap length w.whole, length-append w.done w.left, ap length left)

pub ends_not : {A : Type 0} (b : Bool) → b ≡ true → not b ≡ true → A
ends_not true e f = absurd (false≢true f)
ends_not false e f = absurd (false≢true e)

-- ---- what is sliced, and what a unit of it is in the text

module _ (unit : Grain) (bytes : List ℕ) (utf8 : IsUtf8 bytes) (reaches : Reaches) (at : ℕ) (s : Stretch) (w : IsStretch unit (chars bytes) reaches at s) where
  spelled : bytes ≡ encode_utf8_all w.before ++ (encode_utf8_all w.middle ++ encode_utf8_all w.behind)
  spelled =
      sym (encodes-chars bytes utf8) ∙ ap encode_utf8_all w.whole ∙ encodes-append w.before (w.middle ++ w.behind)
      ∙ ap (λ l. encode_utf8_all w.before ++ l) (encodes-append w.middle w.behind)

  scalars : (all_scalars w.before ≡ true) × (all_scalars (w.middle ++ w.behind) ≡ true)
  scalars = scalars-parts w.before (w.middle ++ w.behind) (ap all_scalars (sym w.whole) ∙ scalars-chars bytes utf8)

  inner : (all_scalars w.middle ≡ true) × (all_scalars w.behind ≡ true)
  inner = scalars-parts w.middle w.behind scalars.1

  to_bytes : s.to.bytes ≡ length (encode_utf8_all w.before) + length (encode_utf8_all w.middle)
  to_bytes = omega (arith, w.to.bytes, ap length (encodes-append w.before w.middle), length-append (encode_utf8_all w.before) (encode_utf8_all w.middle))

  pub stretch-ordered : s.from.bytes ≤ s.to.bytes
  stretch-ordered = omega (arith, w.from.bytes, to_bytes)

  pub stretch-from : IsCharBoundary bytes s.from.bytes
  stretch-from =
      subst (IsCharBoundary bytes) (sym w.from.bytes)
      (IsCharBoundary-at_seam bytes (encode_utf8_all w.before) (encode_utf8_all w.middle ++ encode_utf8_all w.behind) spelled
      (w.middle ++ w.behind, (scalars.1, encodes-append w.middle w.behind)))

  pub stretch-to : IsCharBoundary bytes s.to.bytes
  stretch-to =
      let front = encode_utf8_all w.before ++ encode_utf8_all w.middle in
      subst (IsCharBoundary bytes) (sym (to_bytes ∙ sym (length-append (encode_utf8_all w.before) (encode_utf8_all w.middle))))
      (IsCharBoundary-at_seam bytes front (encode_utf8_all w.behind)
      (spelled ∙ sym (append_assoc (encode_utf8_all w.before) (encode_utf8_all w.middle) (encode_utf8_all w.behind)))
      (w.behind, (inner.1, refl)))

  -- the slice is the part in the middle
  pub stretch-sliced : (part : List ℕ) → part ≡ slice_range bytes s.from.bytes s.to.bytes → chars part ≡ w.middle
  stretch-sliced part e =
      let front = encode_utf8_all w.before in
      let mid = encode_utf8_all w.middle in
      let back = encode_utf8_all w.behind in
      let dropped : drop s.from.bytes bytes ≡ mid ++ back = ap (drop s.from.bytes) spelled ∙ drop_at front (mid ++ back) s.from.bytes (sym w.from.bytes) in
      let taken : take (s.to.bytes - s.from.bytes) (mid ++ back) ≡ mid = take_at mid back (s.to.bytes - s.from.bytes) (omega (arith, w.from.bytes, to_bytes)) in
      ap chars (e ∙ ap (take (s.to.bytes - s.from.bytes)) dropped ∙ taken) ∙ chars-encodes w.middle inner.0

  counts : (s.from.chars ≡ length w.before) × (s.to.chars ≡ length w.before + length w.middle)
  counts = (w.from.chars, omega (arith, w.to.chars, length-append w.before w.middle))

  pub stretch-counted : s.from.chars + length w.middle ≤ length (chars bytes)
  stretch-counted = omega (arith, counts.0, ap length w.whole, length-append w.before (w.middle ++ w.behind), length-append w.middle w.behind)

  pub stretch-holds : (s.from.chars ≤ at) × (at - s.from.chars < length w.middle)
  stretch-holds = (w.holds.0, omega (arith, w.holds.0, w.holds.1, counts.0, counts.1))

  -- a unit of the slice is one of the text, whatever stands around the window
  pub stretch-unit : (start end : ℕ) → IsUnitAt (units unit w.middle) (at - s.from.chars) start end
      → IsUnitWithin unit (chars bytes) reaches at (s.from.chars + start) (s.from.chars + end)
  stretch-unit start end u = λ front back first last.
      let before = front ++ w.before in
      let behind = w.behind ++ back in
      let begins : Begins unit before w.middle = by_first front first w.first in
      let stops : Stops unit w.middle behind = by_last back last w.last in
      let whole : front ++ (chars bytes ++ back) ≡ before ++ (w.middle ++ behind) =
      ap (λ l. front ++ (l ++ back)) w.whole ∙ ap (λ l. front ++ l) (append_assoc w.before (w.middle ++ w.behind) back)
      ∙ ap (λ l. front ++ (w.before ++ l)) (append_assoc w.middle w.behind back) ∙ sym (append_assoc front w.before (w.middle ++ behind)) in
      let is = unit_in_part unit before w.middle behind (at - s.from.chars) start end begins stops u in
      let count = length-append front w.before in
      moved unit (front ++ (chars bytes ++ back)) (before ++ (w.middle ++ behind)) _ _ _ _ _ _ whole
      (omega (arith, count, counts.0, w.holds.0)) (omega (arith, count, counts.0)) (omega (arith, count, counts.0)) is
    where
      by_first : (front : List ℕ) → (reaches.start ≡ true → front ≡ []) → ((w.before ≡ []) × (reaches.start ≡ true)) ⊎ AreApart unit w.before w.middle → Begins unit (front ++ w.before) w.middle
      by_first front none (inl e) = inl (ap₂ ◌++◌ (none e.1) e.0)
      by_first front none (inr a) = inr (apart_before unit front w.before w.middle a)

      by_last : (back : List ℕ) → (reaches.end ≡ true → back ≡ []) → ((w.behind ≡ []) × (reaches.end ≡ true)) ⊎ AreApart unit w.middle w.behind → Stops unit w.middle (w.behind ++ back)
      by_last back none (inl e) = inl (ap₂ ◌++◌ e.0 (none e.1))
      by_last back none (inr a) = inr (apart_behind unit w.middle w.behind back a)

      moved : (unit : Grain) (text same : List ℕ) (a b c x y z : ℕ) → text ≡ same → x ≡ a → y ≡ b → z ≡ c → IsUnitAt (units unit same) x y z → IsUnitAt (units unit text) a b c
      moved unit text same a b c x y z e p q r u =
          subst (λ t. IsUnitAt (units unit t) a b c) (sym e)
          (subst (λ k. IsUnitAt (units unit same) a b k) r (subst (λ k. IsUnitAt (units unit same) a k z) q (subst (λ k. IsUnitAt (units unit same) k y z) p u)))
