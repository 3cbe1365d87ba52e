-- The two sides of a gap after it was moved, and after characters were put in before it or taken out behind it.
use Rattle.std.proofs.Common.{◌≡◌, ℕ, ◌+◌, ◌-◌, ◌<◌, ◌≤◌, List, [], ◌++◌, length, take, drop, reverse, chars, IsUtf8, sym, ap, subst, ◌∙◌, arith, length-append}
use Rattle.std.specs.List.{replace_range}
use Rattle.std.proofs.lemmas.List.{append_assoc, take_at, drop_at, drop-drop, length-take-le}
use Rattle.std.proofs.lemmas.Str.{chars-append, IsUtf8-append, chars-nil}
use Rattle.atspi_faces.specs.declared.side.Place.{Place}
use Rattle.atspi_faces.specs.declared.side.Side.{Side}
use Rattle.atspi_base.specs.Places.{CutAt, IsCounted}
use Rattle.atspi_faces.specs.Sides.{IsPlace, AreNoted, IsSide, AreSides}
use Rattle.atspi_faces.specs.Gap.{text_of, IsGapped, AreKept}
use Rattle.atspi_faces.specs.Run.{IsRun}
use Rattle.atspi_base.proofs.PlaceLemmas.{inserted, removed, removed_counted, count_fits}
use Rattle.atspi_faces.proofs.SideLemmas.{size-reverse, bytes_of, place_of_cut, place_before, place_beyond, sides_of, shortened, noted_more, totals}
use Rattle.atspi_faces.proofs.GapLemmas.{Moved, gapped_fits, cut_off}

-- of a text in two parts
pub kept_fits : (parts : List ℕ × List ℕ) (front back : Side) → AreKept parts front back → (front.end.chars + back.end.chars < 4294967296) × (front.end.bytes + back.end.bytes < 4294967296)
kept_fits parts front back is = (
  gapped_fits parts front.end.chars back.end.chars is.gapped,
  omega (arith, is.gapped.fits, is.before.sized, is.behind.sized, bytes_of parts.0 is.gapped.front.utf8, size-reverse (chars parts.1), bytes_of parts.1 is.gapped.back.utf8),
)

pub kept_sides : (parts : List ℕ × List ℕ) (front back : Side) → AreKept parts front back → AreSides (text_of parts) front back
kept_sides parts front back is = sides_of (chars parts.0) (chars parts.1) front back is.before is.behind

pub place_in_front : (parts : List ℕ × List ℕ) (front back : Side) (place : Place) → AreKept parts front back → place.chars ≤ front.end.chars → CutAt parts.0 place.chars place.bytes → IsPlace (text_of parts) place
place_in_front parts front back place is le cut =
    place_before (chars parts.0) (chars parts.1) place (place_of_cut parts.0 place is.gapped.front.utf8 (omega (arith, le, is.before.counted)) cut)

pub place_in_back : (parts : List ℕ × List ℕ) (front back : Side) (inner place : Place) → AreKept parts front back → inner.chars ≤ back.end.chars → CutAt parts.1 inner.chars inner.bytes → place.chars ≡ front.end.chars + inner.chars → place.bytes ≡ front.end.bytes + inner.bytes → IsPlace (text_of parts) place
place_in_back parts front back inner place is le cut e f =
    place_beyond (chars parts.0) (chars parts.1) inner place (place_of_cut parts.1 inner is.gapped.back.utf8 (omega (arith, le, is.gapped.back.counted)) cut) (omega (arith, e, is.before.counted)) (omega (arith, f, is.before.sized))

pub kept_moved : (old new : List ℕ × List ℕ) (f b g d : Side) (at : ℕ) → Moved old new f.end.chars b.end.chars at → AreSides (text_of old) g d → g.end.chars ≡ at → d.end.chars ≡ f.end.chars + b.end.chars - at → AreKept new g d
kept_moved old new f b g d at moved sides e k =
    let front : take g.end.chars (text_of old) ≡ chars new.0 = ap (λ n. take n (text_of old)) e ∙ sym moved.front in
    let back : drop g.end.chars (text_of old) ≡ chars new.1 = ap (λ n. drop n (text_of old)) e ∙ sym moved.back in
    record {
      gapped = subst (λ n. IsGapped new n d.end.chars) (sym e) (subst (λ n. IsGapped new at n) (sym k) moved.gapped);
      before = subst (λ l. IsSide l g) front sides.near;
      behind = subst (λ l. IsSide (reverse l) d) back sides.far;
    }

pub kept_same : (old new : List ℕ × List ℕ) (f b : Side) → new.0 ≡ old.0 → new.1 ≡ old.1 → AreKept old f b → AreKept new f b
kept_same old new f b e k is =
    let P : List ℕ × List ℕ → Type 0 = λ p. AreKept p f b in
    subst P (sym (ap (λ l. (l, new.1)) e ∙ ap (λ l. (old.0, l)) k)) is

pub kept_put : (old new : List ℕ × List ℕ) (f b g : Side) (more : ℕ) → AreKept old f b → IsGapped new (f.end.chars + more) b.end.chars → new.1 ≡ old.1 → IsSide (chars new.0) g → g.end.chars ≡ f.end.chars + more → AreKept new g b
kept_put old new f b g more is gapped k side e = record {
  gapped = subst (λ n. IsGapped new n b.end.chars) (sym e) gapped;
  before = side;
  behind = subst (λ l. IsSide (reverse (chars l)) b) (sym k) is.behind;
}

-- the places of the front stay noted where its bytes go on
pub noted_put : (bs new xs : List ℕ) (front : Side) (n : ℕ) → IsUtf8 bs → new ≡ bs ++ xs → IsSide (chars bs) front → front.end.chars ≤ n → AreNoted (chars new) n (reverse front.places.items)
noted_put bs new xs front n u e is le = subst (λ l. AreNoted l n (reverse front.places.items)) (sym (ap chars e ∙ chars-append bs xs u)) (noted_more (chars bs) (chars xs) front n is le)

pub kept_cut : (old new : List ℕ × List ℕ) (f b d : Side) (place left : Place) → AreKept old f b → place.chars ≤ b.end.chars → CutAt old.1 place.chars place.bytes → new.0 ≡ old.0 → new.1 ≡ drop place.bytes old.1 → left.chars ≡ b.end.chars - place.chars → left.bytes ≡ b.end.bytes - place.bytes → ((l : List ℕ) → IsSide l b → IsPlace l left → IsSide (take left.chars l) d) → d.end ≡ left → AreKept new f d
kept_cut old new f b d place left is le cut e k lc lb of told =
    let len : d.end.chars ≡ b.end.chars - place.chars = ap (λ p. p.chars) told ∙ lc in
    let rest : drop place.chars (chars old.1) ≡ chars new.1 = sym (ap chars k ∙ cut.back) in
    record {
      gapped = subst (λ n. IsGapped new f.end.chars n) (sym len) (cut_off old new f.end.chars b.end.chars place.chars place.bytes is.gapped le cut e k);
      before = subst (λ l. IsSide (chars l) f) (sym e) is.before;
      behind = subst (λ l. IsSide (reverse l) d) rest (shortened (chars old.1) b d place left is.behind (place_of_cut old.1 place is.gapped.back.utf8 (omega (arith, le, is.gapped.back.counted)) cut) lc lb of);
    }

-- a text before an empty gap
pub kept_fresh : (parts : List ℕ × List ℕ) (bs : List ℕ) (told : ℕ) (f b : Side) → parts.0 ≡ bs → parts.1 ≡ [] → IsGapped parts told 0 → IsSide (chars bs) f → f.end.chars ≡ told → IsSide [] b → AreKept parts f b
kept_fresh parts bs told f b e k gapped before len behind = record {
  gapped = subst (λ n. IsGapped parts n b.end.chars) (sym len) (subst (λ n. IsGapped parts told n) (sym behind.counted) gapped);
  before = subst (λ l. IsSide (chars l) f) (sym e) before;
  behind = subst (λ l. IsSide l b) (sym (ap (λ l. reverse (chars l)) k ∙ ap reverse chars-nil)) behind;
}

-- of a text in one piece
pub run_fits : (bs : List ℕ) (front back : Side) → IsUtf8 bs → IsRun bs front back → (front.end.chars + back.end.chars < 4294967296) × (front.end.bytes + back.end.bytes < 4294967296)
run_fits bs front back u is =
    let sums = totals (chars bs) front back is.sides in (
      count_is bs front back u is,
      omega (arith, sums.1, bytes_of bs u, is.counted.text.counted),
    )
  where
    count_is : (bs : List ℕ) (front back : Side) → IsUtf8 bs → IsRun bs front back → front.end.chars + back.end.chars < 4294967296
    count_is bs front back u is = count_fits bs (front.end.chars + back.end.chars) u is.counted

-- the bytes before an insertion's end, and the cut there
pub inserted_front : (bs new xs : List ℕ) (n p : ℕ) → CutAt bs n p → new ≡ replace_range bs p p xs → take (p + length xs) new ≡ take p bs ++ xs
inserted_front bs new xs n p cut e = ap (take (p + length xs)) e ∙ take_at (take p bs ++ xs) (drop p bs) (p + length xs) (omega (arith, length-append (take p bs) xs, length-take-le p bs cut.within))

pub inserted_cut : (bs new xs : List ℕ) (n p : ℕ) → CutAt bs n p → n ≤ length (chars bs) → IsUtf8 xs → new ≡ replace_range bs p p xs → CutAt new (n + length (chars xs)) (p + length xs)
inserted_cut bs new xs n p cut le u e =
    let cs = chars bs in
    let front : take (p + length xs) new ≡ take p bs ++ xs = inserted_front bs new xs n p cut e in
    let back : drop (p + length xs) new ≡ drop p bs = ap (drop (p + length xs)) e ∙ drop_at (take p bs ++ xs) (drop p bs) (p + length xs) (omega (arith, length-append (take p bs) xs, length-take-le p bs cut.within)) in
    let text : chars new ≡ (take n cs ++ chars xs) ++ drop n cs = inserted bs new xs n p cut u e ∙ sym (append_assoc (take n cs) (chars xs) (drop n cs)) in
    let len : length (take n cs ++ chars xs) ≡ n + length (chars xs) = omega (arith, length-append (take n cs) (chars xs), length-take-le n cs le) in
    record {
      within = omega (arith, ap length e, length-append (take p bs ++ xs) (drop p bs), length-append (take p bs) xs, length-take-le p bs cut.within);
      front_utf8 = subst IsUtf8 (sym front) (IsUtf8-append (take p bs) xs cut.front_utf8 u);
      back_utf8 = subst IsUtf8 (sym back) cut.back_utf8;
      front = ap chars front ∙ chars-append (take p bs) xs cut.front_utf8 ∙ ap (λ l. l ++ chars xs) cut.front
          ∙ sym (ap (take (n + length (chars xs))) text ∙ take_at (take n cs ++ chars xs) (drop n cs) (n + length (chars xs)) len);
      back = ap chars back ∙ cut.back ∙ sym (ap (drop (n + length (chars xs))) text ∙ drop_at (take n cs ++ chars xs) (drop n cs) (n + length (chars xs)) len);
    }

-- the characters before an insertion's end
pub inserted_chars : (bs new xs part : List ℕ) (n p : ℕ) → CutAt bs n p → new ≡ replace_range bs p p xs → part ≡ take (p + length xs) new → chars part ≡ take n (chars bs) ++ chars xs
inserted_chars bs new xs part n p cut e f = ap chars (f ∙ inserted_front bs new xs n p cut e) ∙ chars-append (take p bs) xs cut.front_utf8 ∙ ap (λ l. l ++ chars xs) cut.front

pub run_put : (bs new xs : List ℕ) (f b g : Side) (told more n p : ℕ) → IsCounted bs told → AreSides (chars bs) f b → f.end.chars ≡ n → b.end.chars ≡ told - n → n ≤ told → CutAt bs n p → IsUtf8 xs → new ≡ replace_range bs p p xs → IsCounted new (told + more) → IsSide (take n (chars bs) ++ chars xs) g → g.end.chars ≡ n + more → IsRun new g b
run_put bs new xs f b g told more n p is sides e k le cut u same counted side long =
    let cs = chars bs in
    let far : IsSide (reverse (drop n cs)) b = subst (λ m. IsSide (reverse (drop m cs)) b) e sides.far in
    let text : chars new ≡ (take n cs ++ chars xs) ++ drop n cs = inserted bs new xs n p cut u same ∙ sym (append_assoc (take n cs) (chars xs) (drop n cs)) in
    let sum : told + more ≡ g.end.chars + b.end.chars = omega (arith, long, k, le) in
    record {
      counted = subst (λ m. IsCounted new m) sum counted;
      sides = subst (λ l. AreSides l g b) (sym text) (sides_of (take n cs ++ chars xs) (drop n cs) g b side far);
    }

pub run_cut : (bs new : List ℕ) (f b d : Side) (told n p : ℕ) (place left : Place) → IsCounted bs told → AreSides (chars bs) f b → f.end.chars ≡ n → b.end.chars ≡ told - n → n + place.chars ≤ told → CutAt bs n p → CutAt bs (n + place.chars) (p + place.bytes) → IsPlace (drop n (chars bs)) place → new ≡ replace_range bs p (p + place.bytes) [] → left.chars ≡ b.end.chars - place.chars → left.bytes ≡ b.end.bytes - place.bytes → ((l : List ℕ) → IsSide l b → IsPlace l left → IsSide (take left.chars l) d) → d.end ≡ left → IsRun new f d
run_cut bs new f b d told n p place left is sides e k le one two it same lc lb of long =
    let cs = chars bs in
    let near : IsSide (take n cs) f = subst (λ m. IsSide (take m cs) f) e sides.near in
    let far : IsSide (reverse (drop n cs)) b = subst (λ m. IsSide (reverse (drop m cs)) b) e sides.far in
    let less : IsSide (reverse (drop (n + place.chars) cs)) d = subst (λ l. IsSide (reverse l) d) (drop-drop place.chars n cs) (shortened (drop n cs) b d place left far it lc lb of) in
    let text : chars new ≡ take n cs ++ drop (n + place.chars) cs = removed bs new n (n + place.chars) p (p + place.bytes) one two same in
    let len : d.end.chars ≡ b.end.chars - place.chars = ap (λ q. q.chars) long ∙ lc in
    let sum : told - place.chars ≡ f.end.chars + d.end.chars = omega (arith, e, k, le, len) in
    record {
      counted = subst (λ m. IsCounted new m) sum (removed_counted bs new told n place.chars p place.bytes is le one two same);
      sides = subst (λ l. AreSides l f d) (sym text) (sides_of (take n cs) (drop (n + place.chars) cs) f d near less);
    }

-- the side behind the gap, in the bytes from there on
pub run_behind : (bs rest : List ℕ) (f b : Side) (n p : ℕ) → AreSides (chars bs) f b → f.end.chars ≡ n → CutAt bs n p → rest ≡ drop p bs → IsSide (reverse (chars rest)) b
run_behind bs rest f b n p sides e cut same = subst (λ l. IsSide (reverse l) b) (ap (λ m. drop m (chars bs)) e ∙ sym (ap chars same ∙ cut.back)) sides.far

pub run_before : (bs : List ℕ) (f b : Side) (n : ℕ) → AreSides (chars bs) f b → f.end.chars ≡ n → IsSide (take n (chars bs)) f
run_before bs f b n sides e = subst (λ m. IsSide (take m (chars bs)) f) e sides.near
