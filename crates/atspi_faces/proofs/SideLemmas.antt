-- Noted places: what stays one when a text grows or is read from its other end.
use Rattle.std.proofs.Common.{◌≡◌, ℕ, zero, suc, ◌+◌, ◌-◌, ◌<◌, ◌≤◌, List, [], ◌∷◌, ◌++◌, length, get_or, take, drop, reverse, Bool, true, false, cond, ◌⊎◌, inl, inr, chars, IsUtf8, encode_utf8_all, refl, sym, ap, subst, ◌∙◌, arith, length-append}
use Rattle.std.proofs.lemmas.List.{take-append-drop, take_at, drop_at, take-take, length-take, length-take-le, length-drop, length-reverse, reverse-append, reverse-reverse, take_all, get_or-reverse, take-append-le}
use Rattle.std.proofs.lemmas.Str.{encodes-append, encodes-chars}
use Rattle.std.proofs.Math.Seq.{take-add}
use Rattle.atspi_base.specs.Places.{CutAt}
use Rattle.atspi_base.proofs.PlaceLemmas.{cut_behind}
use Rattle.std.specs.Prelude.{slice_index_or}
use Rattle.atspi_faces.specs.declared.side.Place.{Place}
use Rattle.atspi_faces.specs.declared.side.Side.{Side}
use Rattle.atspi_faces.specs.Sides.{size, IsPlace, AreNoted, IsSide, AreSpread, AreSides}

pub size-append : (xs ys : List ℕ) → size (xs ++ ys) ≡ size xs + size ys
size-append xs ys = ap length (encodes-append xs ys) ∙ length-append (encode_utf8_all xs) (encode_utf8_all ys)

reverse_cons : {X : Type 0} (x : X) (xs : List X) → reverse (x ∷ xs) ≡ reverse xs ++ x ∷ []
reverse_cons x xs = reverse-append (x ∷ []) xs

pub reverse_last : {X : Type 0} (xs : List X) (x : X) → reverse (xs ++ x ∷ []) ≡ x ∷ reverse xs
reverse_last xs x = reverse-append xs (x ∷ [])

pub size-reverse : (cs : List ℕ) → size (reverse cs) ≡ size cs
size-reverse [] = refl
size-reverse (c ∷ cs) = omega (arith, ap size (reverse_cons c cs), size-append (reverse cs) (c ∷ []), size-append (c ∷ []) cs, size-reverse cs)

pub size_split : (n : ℕ) (cs : List ℕ) → size (take n cs) + size (drop n cs) ≡ size cs
size_split n cs = sym (size-append (take n cs) (drop n cs)) ∙ ap size (take-append-drop n cs)

-- the same place in another text that begins alike
taken_along : (xs ys : List ℕ) (n m : ℕ) → m ≤ n → take n xs ≡ take n ys → take m xs ≡ take m ys
taken_along xs ys n m le e = sym (take-take m n xs le) ∙ ap (take m) e ∙ take-take m n ys le

pub place_along : (xs ys : List ℕ) (n : ℕ) (place : Place) → place.chars ≤ n → take n xs ≡ take n ys → IsPlace xs place → IsPlace ys place
place_along xs ys n place le e is = record {
  within = omega (arith, is.within, le, ap length e, length-take n xs, length-take n ys);
  told = is.told ∙ ap size (taken_along xs ys n place.chars le e);
}

pub noted_along : (xs ys : List ℕ) (n : ℕ) (places : List Place) → take n xs ≡ take n ys → AreNoted xs n places → AreNoted ys n places
noted_along xs ys n [] e is = tt
noted_along xs ys n (place ∷ places) e is = (is.0, place_along xs ys n place is.0 e is.1, noted_along xs ys place.chars places (taken_along xs ys n place.chars is.0 e) is.2)

pub noted_wider : (cs : List ℕ) (n m : ℕ) (places : List Place) → n ≤ m → AreNoted cs n places → AreNoted cs m places
noted_wider cs n m [] le is = tt
noted_wider cs n m (place ∷ places) le is = (omega (arith, le, is.0), is.1, is.2)

-- a place read from the other end
pub mirrored : (text : List ℕ) (total place other : Place) → total.chars ≡ length text → total.bytes ≡ size text → IsPlace text place → other.chars ≡ total.chars - place.chars → other.bytes ≡ total.bytes - place.bytes → IsPlace (reverse text) other
mirrored text total place other counted sized is e f =
    let c = place.chars in
    let whole : reverse text ≡ reverse (drop c text) ++ reverse (take c text) = ap reverse (sym (take-append-drop c text)) ∙ reverse-append (take c text) (drop c text) in
    let len : length (reverse (drop c text)) ≡ other.chars = omega (arith, length-reverse (drop c text), length-drop c text, e, counted) in
    let taken : take other.chars (reverse text) ≡ reverse (drop c text) = ap (take other.chars) whole ∙ take_at (reverse (drop c text)) (reverse (take c text)) other.chars len in
    record {
      within = omega (arith, e, counted, length-reverse text);
      told = omega (arith, f, sized, is.told, size_split c text, ap size taken, size-reverse (drop c text));
    }

-- a place noted behind the others, if it was
pub put_noted : (cs : List ℕ) (n : ℕ) (place : Place) (old new : List Place) → place.chars ≤ n → IsPlace cs place → AreNoted cs place.chars (reverse old) → (new ≡ old) ⊎ (new ≡ old ++ place ∷ []) → AreNoted cs n (reverse new)
put_noted cs n place old new le is noted (inl e) = subst (λ l. AreNoted cs n (reverse l)) (sym e) (noted_wider cs place.chars n (reverse old) le noted)
put_noted cs n place old new le is noted (inr e) =
    let it : AreNoted cs n (place ∷ reverse old) = (le, is, noted) in
    subst (λ l. AreNoted cs n l) (sym (ap reverse e ∙ reverse_last old place)) it

-- the last place taken out
pub popped : (cs : List ℕ) (n : ℕ) (place : Place) (old new : List Place) → old ≡ new ++ place ∷ [] → AreNoted cs n (reverse old) → AreNoted cs n (place ∷ reverse new)
popped cs n place old new e is = subst (λ l. AreNoted cs n l) (ap reverse e ∙ reverse_last new place) is

-- each of them is a place
noted_at : (cs : List ℕ) (n : ℕ) (places : List Place) (k : ℕ) (d : Place) → AreNoted cs n places → k < length places → IsPlace cs (get_or places k d)
noted_at cs n [] k d is lt = absurd (omega (arith, lt))
noted_at cs n (place ∷ places) zero d is lt = is.1
noted_at cs n (place ∷ places) (suc k) d is lt = noted_at cs place.chars places k d is.2 (omega (arith, lt))

pub noted_place : (cs : List ℕ) (n : ℕ) (places : List Place) (i : ℕ) (place : Place) → AreNoted cs n (reverse places) → i < length places → place ≡ slice_index_or places i place → IsPlace cs place
noted_place cs n places i place is lt e =
    let k = length places - 1 - i in
    let back : length places - 1 - k ≡ i = omega (arith, lt) in
    let same : get_or (reverse places) k place ≡ place = get_or-reverse places k place (omega (arith, lt)) ∙ ap (λ m. get_or places m place) back ∙ sym e in
    subst (λ p. IsPlace cs p) same (noted_at cs n (reverse places) k place is (omega (arith, lt, length-reverse places)))

-- what is behind a place, read from the other end
rest_taken : (n m : ℕ) (text : List ℕ) → m ≡ length (reverse (drop n text)) → take m (reverse text) ≡ reverse (drop n text)
rest_taken n m text e =
    ap (take m) (ap reverse (sym (take-append-drop n text)) ∙ reverse-append (take n text) (drop n text))
    ∙ take_at (reverse (drop n text)) (reverse (take n text)) m (sym e)

rest_dropped : (n m : ℕ) (text : List ℕ) → m ≡ length (reverse (drop n text)) → drop m (reverse text) ≡ reverse (take n text)
rest_dropped n m text e =
    ap (drop m) (ap reverse (sym (take-append-drop n text)) ∙ reverse-append (take n text) (drop n text))
    ∙ drop_at (reverse (drop n text)) (reverse (take n text)) m (sym e)

-- the end of a side is a place of it
pub end_place : (cs : List ℕ) (side : Side) → IsSide cs side → IsPlace cs side.end
end_place cs side is = record {
  within = omega (arith, is.counted);
  told = is.sized ∙ ap size (sym (take_all side.end.chars cs (omega (arith, is.counted))));
}

pub totals : (text : List ℕ) (side other : Side) → AreSides text side other → (side.end.chars + other.end.chars ≡ length text) × (side.end.bytes + other.end.bytes ≡ size text)
totals text side other is =
    let n = side.end.chars in (
      omega (arith, is.near.counted, is.far.counted, length-take n text, length-drop n text, length-reverse (drop n text)),
      omega (arith, is.near.sized, is.far.sized, size_split n text, size-reverse (drop n text)),
    )

-- the two sides change places where the text is read from its other end
pub turned : (text : List ℕ) (side other : Side) → AreSides text side other → AreSides (reverse text) other side
turned text side other is =
    let n = side.end.chars in
    let m = other.end.chars in
    let rest : reverse (drop m (reverse text)) ≡ take n text = ap reverse (rest_dropped n m text is.far.counted) ∙ reverse-reverse (take n text) in
    record {
      near = subst (λ l. IsSide l other) (sym (rest_taken n m text is.far.counted)) is.far;
      far = subst (λ l. IsSide l side) (sym rest) is.near;
    }

pub spread : (text : List ℕ) (side other : Side) (total : Place) (places : List Place) → AreSides text side other → total.chars ≡ side.end.chars + other.end.chars → total.bytes ≡ side.end.bytes + other.end.bytes → (places ≡ other.places.items) ⊎ (places ≡ other.places.items ++ other.end ∷ []) → AreSpread text total side.end.chars side.places.items places
spread text side other total places is e f put =
    let n = side.end.chars in
    let m = other.end.chars in
    let rest = reverse (drop n text) in
    let sums = totals text side other is in
    let behind : m ≡ total.chars - n = omega (arith, e) in
    let along : take m rest ≡ take m (reverse text) = take_all m rest (omega (arith, is.far.counted)) ∙ sym (rest_taken n m text is.far.counted) in
    let end : IsPlace (reverse text) other.end = place_along rest (reverse text) m other.end (omega arith) along (end_place rest other is.far) in
    let noted : AreNoted (reverse text) m (reverse other.places.items) = noted_along rest (reverse text) m (reverse other.places.items) along is.far.noted in
    record {
      counted = omega (arith, e, sums.0);
      sized = omega (arith, f, sums.1);
      within = omega (arith, e);
      held = noted_along (take n text) text n (reverse side.places.items) (take-take n n text (omega arith)) is.near.noted;
      given = put_noted (reverse text) (total.chars - n) other.end other.places.items places (omega (arith, behind)) end noted put;
    }

pub gathered : (text : List ℕ) (side other : Side) (total : Place) → IsPlace text side.end → other.end.chars ≡ total.chars - side.end.chars → other.end.bytes ≡ total.bytes - side.end.bytes → AreSpread text total side.end.chars side.places.items other.places.items → AreSides text side other
gathered text side other total is e f s =
    let n = side.end.chars in
    let m = other.end.chars in
    let rest = reverse (drop n text) in
    let len : m ≡ length rest = omega (arith, e, s.counted, length-drop n text, length-reverse (drop n text)) in
    let along : take m (reverse text) ≡ take m rest = rest_taken n m text len ∙ sym (take_all m rest (omega (arith, len))) in
    let noted : AreNoted (reverse text) m (reverse other.places.items) = subst (λ k. AreNoted (reverse text) k (reverse other.places.items)) (sym e) s.given in
    record {
      near = record {
        counted = omega (arith, is.within, length-take-le n text is.within);
        sized = is.told;
        noted = noted_along text (take n text) n (reverse side.places.items) (sym (take-take n n text (omega arith))) s.held;
      };
      far = record {
        counted = len;
        sized = omega (arith, f, s.sized, is.told, size_split n text, size-reverse (drop n text));
        noted = noted_along (reverse text) rest m (reverse other.places.items) along noted;
      };
    }

pub place_of_cut : (bs : List ℕ) (place : Place) → IsUtf8 bs → place.chars ≤ length (chars bs) → CutAt bs place.chars place.bytes → IsPlace (chars bs) place
place_of_cut bs place u le cut =
    let front = take place.bytes bs in
    record {
      within = le;
      told = sym (ap size (sym cut.front) ∙ ap length (encodes-chars front cut.front_utf8) ∙ length-take-le place.bytes bs cut.within);
    }

pub bytes_of : (bs : List ℕ) → IsUtf8 bs → size (chars bs) ≡ length bs
bytes_of bs u = ap length (encodes-chars bs u)

pub place_before : (xs ys : List ℕ) (place : Place) → IsPlace xs place → IsPlace (xs ++ ys) place
place_before xs ys place is = place_along xs (xs ++ ys) place.chars place (omega arith) (sym (take-append-le place.chars xs ys is.within)) is

pub place_beyond : (xs ys : List ℕ) (place other : Place) → IsPlace ys place → other.chars ≡ length xs + place.chars → other.bytes ≡ size xs + place.bytes → IsPlace (xs ++ ys) other
place_beyond xs ys place other is e f =
    let all : take other.chars (xs ++ ys) ≡ xs ++ take place.chars ys = ap (λ n. take n (xs ++ ys)) e ∙ take_further xs ys place.chars in
    record {
      within = omega (arith, e, is.within, length-append xs ys);
      told = omega (arith, f, is.told, ap size all, size-append xs (take place.chars ys));
    }
  where
    take_further : (xs ys : List ℕ) (k : ℕ) → take (length xs + k) (xs ++ ys) ≡ xs ++ take k ys
    take_further xs ys k = take-add (length xs) k (xs ++ ys) ∙ ap (λ l. l ++ take k (drop (length xs) (xs ++ ys))) (take_at xs ys (length xs) refl) ∙ ap (λ l. xs ++ take k l) (drop_at xs ys (length xs) refl)

-- places stay noted where a text grows
pub noted_more : (xs ys : List ℕ) (side : Side) (n : ℕ) → IsSide xs side → side.end.chars ≤ n → AreNoted (xs ++ ys) n (reverse side.places.items)
noted_more xs ys side n is le = noted_wider (xs ++ ys) side.end.chars n (reverse side.places.items) le (noted_along xs (xs ++ ys) side.end.chars (reverse side.places.items) (sym (take-append-le side.end.chars xs ys (omega (arith, is.counted)))) is.noted)

-- two sides of what stands before and behind a gap
pub sides_of : (xs ys : List ℕ) (front back : Side) → IsSide xs front → IsSide (reverse ys) back → AreSides (xs ++ ys) front back
sides_of xs ys front back is it = record {
  near = subst (λ l. IsSide l front) (sym (take_at xs ys front.end.chars (sym is.counted))) is;
  far = subst (λ l. IsSide (reverse l) back) (sym (drop_at xs ys front.end.chars (sym is.counted))) it;
}

-- characters taken out behind the gap
pub shortened : (cs : List ℕ) (side new : Side) (place left : Place) → IsSide (reverse cs) side → IsPlace cs place → left.chars ≡ side.end.chars - place.chars → left.bytes ≡ side.end.bytes - place.bytes → ((l : List ℕ) → IsSide l side → IsPlace l left → IsSide (take left.chars l) new) → IsSide (reverse (drop place.chars cs)) new
shortened cs side new place left is it e f of =
    let counted : side.end.chars ≡ length cs = is.counted ∙ length-reverse cs in
    let sized : side.end.bytes ≡ size cs = is.sized ∙ size-reverse cs in
    let len : left.chars ≡ length (reverse (drop place.chars cs)) = omega (arith, e, counted, length-reverse (drop place.chars cs), length-drop place.chars cs) in
    subst (λ l. IsSide l new) (rest_taken place.chars left.chars cs len) (of (reverse cs) is (mirrored cs side.end place left counted sized it e f))

-- a place noted by a push, if there was memory
pub pushed : (b : Bool) (old new : List Place) (place : Place) → new ≡ cond b (old ++ place ∷ []) old → (new ≡ old) ⊎ (new ≡ old ++ place ∷ [])
pushed true old new place e = inr e
pushed false old new place e = inl e

-- a cut before a cut
pub cut_within : (bs front : List ℕ) (n p at q : ℕ) → IsUtf8 bs → CutAt bs n p → front ≡ take p bs → at ≤ length (chars front) → CutAt front at q → CutAt bs at q
cut_within bs front n p at q u cut e le inner =
    let place : Place = record { chars = at; bytes = q } in
    let cs = chars bs in
    let same : chars front ≡ take n cs = ap chars e ∙ cut.front in
    let short : at ≤ n = omega (arith, le, ap length same, length-take n cs) in
    let is : IsPlace (take n cs) place = subst (λ l. IsPlace l place) same (place_of_cut front place (subst IsUtf8 (sym e) cut.front_utf8) le inner) in
    cut_behind bs at q u (place_along (take n cs) cs n place short (take-take n n cs (omega arith)) is).told

-- nothing is noted in a new side
pub noted_new : (cs : List ℕ) (n : ℕ) (side : Side) → IsSide [] side → AreNoted cs n (reverse side.places.items)
noted_new cs n side is =
    let none : side.end.chars ≡ 0 = is.counted in
    noted_wider cs side.end.chars n (reverse side.places.items) (omega (arith, none)) (noted_along [] cs side.end.chars (reverse side.places.items) (ap (λ m. take m []) none ∙ ap (λ m. take m cs) (sym none)) is.noted)
