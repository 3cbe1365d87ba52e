-- Characters in their bytes: where a text may be cut, and what the cuts are.
use Rattle.std.proofs.Common.{◌≡◌, ℕ, zero, suc, ◌+◌, ◌-◌, ◌<◌, ◌≤◌, List, [], ◌∷◌, ◌++◌, length, take, drop, Bool, true, false, ◌&&◌, Option, Some, None, MatchOption, Result, Ok, Err, OnOk, OnErr, chars, IsUtf8, encode_utf8_all, encode_utf8, refl, sym, ap, subst, ◌∙◌, arith, add-one, length-append}
use Rattle.std.proofs.lemmas.List.{take-append-drop, take_at, drop_at, append_assoc, append_cancel_left, append-nil, take_all, nil_from_length, length-take-le, length-drop, drop-drop}
use Rattle.std.proofs.lemmas.Str.{chars-encodes, encodes-append, encodes-chars, scalars-chars, length-le-encodes, chars-append, cons_from_encodes, IsCharBoundary-from_take, IsUtf8-append, IsUtf8-nil, chars-nil}
use Rattle.std.proofs.Math.Seq.{take-add}
use Rattle.std.specs.Str.{all_scalars, IsCharBoundary}
use Rattle.std.specs.List.{replace_range}
use Rattle.std.specs.Prelude.{String}
use Rattle.std.specs.Result.{is_err}
use Rattle.std.specs.String.{string_bytes, string_len, string_capacity, string_vec}
use Rattle.atspi_base.specs.ReadsText.{ReadsText, text_in}
use Rattle.atspi_base.specs.declared.text.Text.{Text}
use Rattle.atspi_base.specs.declared.text.TextFault.{TextFault}
use Rattle.atspi_base.specs.declared.text.TextFault.TheVariants.{Zero, Utf8}
use Rattle.atspi_base.proofs.TextLemmas.{whole, length-chars-le}
use Rattle.atspi_base.specs.Text.{HasNoZero, bytes_before_zero}
use Rattle.atspi_base.specs.Places.{CutAt, IsCounted}

both : (a b : Bool) → a && b ≡ true → (a ≡ true) × (b ≡ true)
both true b e = (refl, e)
both false b e = absurd cc

join : (a b : Bool) → a ≡ true → b ≡ true → a && b ≡ true
join true b p q = q
join false b p q = absurd cc

scalars-take : (n : ℕ) (cs : List ℕ) → all_scalars cs ≡ true → all_scalars (take n cs) ≡ true
scalars-take zero cs e = refl
scalars-take (suc n) [] e = refl
scalars-take (suc n) (c ∷ cs) e = let p = both _ _ e in join _ _ p.0 (scalars-take n cs p.1)

scalars-drop : (n : ℕ) (cs : List ℕ) → all_scalars cs ≡ true → all_scalars (drop n cs) ≡ true
scalars-drop zero cs e = e
scalars-drop (suc n) [] e = refl
scalars-drop (suc n) (c ∷ cs) e = scalars-drop n cs (both _ _ e).1

-- the bytes are those of the front characters, and then those of the others
parts : (bs : List ℕ) (n : ℕ) → IsUtf8 bs → encode_utf8_all (take n (chars bs)) ++ encode_utf8_all (drop n (chars bs)) ≡ bs
parts bs n u = sym (encodes-append (take n (chars bs)) (drop n (chars bs))) ∙ ap encode_utf8_all (take-append-drop n (chars bs)) ∙ encodes-chars bs u

-- a text can be cut behind the bytes of its front characters
pub cut_behind : (bs : List ℕ) (n place : ℕ) → IsUtf8 bs → place ≡ length (encode_utf8_all (take n (chars bs))) → CutAt bs n place
cut_behind bs n place u e =
    let front = encode_utf8_all (take n (chars bs)) in
    let back = encode_utf8_all (drop n (chars bs)) in
    let whole : front ++ back ≡ bs = parts bs n u in
    let taken : take place bs ≡ front = ap (take place) (sym whole) ∙ take_at front back place (sym e) in
    let dropped : drop place bs ≡ back = ap (drop place) (sym whole) ∙ drop_at front back place (sym e) in
    let scalar = scalars-chars bs u in
    record {
      within = omega (arith, e, ap length whole, length-append front back);
      front_utf8 = (take n (chars bs), (scalars-take n (chars bs) scalar, sym taken));
      back_utf8 = (drop n (chars bs), (scalars-drop n (chars bs) scalar, sym dropped));
      front = ap chars taken ∙ chars-encodes (take n (chars bs)) (scalars-take n (chars bs) scalar);
      back = ap chars dropped ∙ chars-encodes (drop n (chars bs)) (scalars-drop n (chars bs) scalar);
    }

-- in a text of one byte a character, a place of a character is a place of a byte
pub cut_ascii : (bs : List ℕ) (n : ℕ) → IsUtf8 bs → length bs ≡ length (chars bs) → n ≤ length (chars bs) → CutAt bs n n
cut_ascii bs n u same le =
    let cs = chars bs in
    let front = encode_utf8_all (take n cs) in
    let back = encode_utf8_all (drop n cs) in
    let f : length (take n cs) ≤ length front = length-le-encodes (take n cs) in
    let b : length (drop n cs) ≤ length back = length-le-encodes (drop n cs) in
    let ft : length (take n cs) ≡ n = length-take-le n cs le in
    let bd : length (drop n cs) ≡ length cs - n = length-drop n cs in
    cut_behind bs n n u (omega (arith, ap length (parts bs n u), length-append front back))

pub cut_end : (bs : List ℕ) (n : ℕ) → IsUtf8 bs → n ≡ length (chars bs) → CutAt bs n (length bs)
cut_end bs n u e = cut_behind bs n (length bs) u (ap length (sym (encodes-chars bs u)) ∙ ap (λ l. length (encode_utf8_all l)) (sym (take_all n (chars bs) (omega (arith, e)))))

-- the walk over characters: what it has passed, and what is left
pub record Walked (bs : List ℕ) (n : ℕ) (rest : List ℕ) : Type 0 where
  pub spelled : bs ≡ encode_utf8_all (take n (chars bs)) ++ rest

pub walk_none : (bs : List ℕ) → Walked bs 0 bs
walk_none bs = record { spelled = refl }

left_is : (bs : List ℕ) (n : ℕ) (rest : List ℕ) → IsUtf8 bs → Walked bs n rest → rest ≡ encode_utf8_all (drop n (chars bs))
left_is bs n rest u w = append_cancel_left (encode_utf8_all (take n (chars bs))) rest _ (sym w.spelled ∙ sym (parts bs n u))

take_one_more : (n : ℕ) (cs es : List ℕ) (c : ℕ) → drop n cs ≡ c ∷ es → take (suc n) cs ≡ take n cs ++ c ∷ []
take_one_more zero [] es c e = absurd cc
take_one_more zero (x ∷ cs) es c e = let same : x ≡ c = cc in ap (λ k. k ∷ []) same
take_one_more (suc n) [] es c e = absurd cc
take_one_more (suc n) (x ∷ cs) es c e = ap (λ l. x ∷ l) (take_one_more n cs es c e)

walk_suc : (bs : List ℕ) (n c : ℕ) (rest more : List ℕ) → IsUtf8 bs → Walked bs n rest → rest ≡ encode_utf8 c ++ more → Walked bs (suc n) more
walk_suc bs n c rest more u w e =
    let cs = chars bs in
    let next = cons_from_encodes (drop n cs) more c (sym (left_is bs n rest u w) ∙ e) in
    let one : take (suc n) cs ≡ take n cs ++ c ∷ [] = take_one_more n cs next.0 c next.1 in
    record {
      spelled =
          w.spelled ∙ ap (λ r. encode_utf8_all (take n cs) ++ r) e
          ∙ sym (append_assoc (encode_utf8_all (take n cs)) (encode_utf8 c) more)
          ∙ ap (λ r. (encode_utf8_all (take n cs) ++ r) ++ more) (sym (append-nil (encode_utf8 c)))
          ∙ ap (λ r. r ++ more) (sym (encodes-append (take n cs) (c ∷ [])))
          ∙ ap (λ l. encode_utf8_all l ++ more) (sym one);
    }

pub walk_more : (bs : List ℕ) (n c : ℕ) (rest more : List ℕ) → IsUtf8 bs → Walked bs n rest → rest ≡ encode_utf8 c ++ more → Walked bs (n + 1) more
walk_more bs n c rest more u w e = subst (λ m. Walked bs m more) (sym (add-one n)) (walk_suc bs n c rest more u w e)

encodes_none : (cs : List ℕ) → length (encode_utf8_all cs) ≡ 0 → cs ≡ []
encodes_none cs e = nil_from_length cs (omega (arith, length-le-encodes cs, e))

take_past : (n : ℕ) (cs : List ℕ) → drop n cs ≡ [] → take (suc n) cs ≡ take n cs
take_past zero [] e = refl
take_past zero (x ∷ cs) e = absurd cc
take_past (suc n) [] e = refl
take_past (suc n) (x ∷ cs) e = ap (λ l. x ∷ l) (take_past n cs e)

pub walk_end : (bs : List ℕ) (n : ℕ) (rest : List ℕ) → IsUtf8 bs → Walked bs n rest → length rest ≡ 0 → Walked bs (n + 1) rest
walk_end bs n rest u w e =
    let none : drop n (chars bs) ≡ [] = encodes_none (drop n (chars bs)) (ap length (sym (left_is bs n rest u w)) ∙ e) in
    subst (λ m. Walked bs m rest) (sym (add-one n)) (record { spelled = w.spelled ∙ ap (λ l. encode_utf8_all l ++ rest) (sym (take_past n (chars bs) none)) })

-- a step of the walk, or its end
pub walk_step : {S : Type 0} (left : S → List ℕ) (bs : List ℕ) (n : ℕ) (s t : S) (r : Option ℕ) → IsUtf8 bs → Walked bs n (left s) → MatchOption r ((length (left s) ≡ 0) × (t ≡ s)) (λ c. left s ≡ encode_utf8 c ++ left t) → Walked bs (n + 1) (left t)
walk_step left bs n s t None u w h = subst (λ l. Walked bs (n + 1) l) (ap left (sym h.1)) (walk_end bs n (left s) u w h.0)
walk_step left bs n s t (Some c) u w h = walk_more bs n c (left s) (left t) u w h

pub cut_walked : (bs : List ℕ) (n m : ℕ) (rest told : List ℕ) → IsUtf8 bs → Walked bs m rest → told ≡ rest → m ≡ n → CutAt bs n (length bs - length told)
cut_walked bs n m rest told u w same e =
    let v : Walked bs n rest = subst (λ k. Walked bs k rest) e w in
    cut_behind bs n (length bs - length told) u (omega (arith, ap length same, ap length v.spelled, length-append (encode_utf8_all (take n (chars bs))) rest))

-- no zero byte, in parts and in a whole
pub no_zero-append : (xs ys : List ℕ) → HasNoZero xs → HasNoZero ys → HasNoZero (xs ++ ys)
no_zero-append [] ys p q = q
no_zero-append (zero ∷ xs) ys p q = absurd (omega (arith, p))
no_zero-append (suc x ∷ xs) ys p q = ap suc (no_zero-append xs ys (omega (arith, p)) q)

pub no_zero-take : (n : ℕ) (xs : List ℕ) → HasNoZero xs → HasNoZero (take n xs)
no_zero-take zero xs p = refl
no_zero-take (suc n) [] p = refl
no_zero-take (suc n) (zero ∷ xs) p = absurd (omega (arith, p))
no_zero-take (suc n) (suc x ∷ xs) p = ap suc (no_zero-take n xs (omega (arith, p)))

pub no_zero-drop : (n : ℕ) (xs : List ℕ) → HasNoZero xs → HasNoZero (drop n xs)
no_zero-drop zero xs p = p
no_zero-drop (suc n) [] p = refl
no_zero-drop (suc n) (zero ∷ xs) p = absurd (omega (arith, p))
no_zero-drop (suc n) (suc x ∷ xs) p = no_zero-drop n xs (omega (arith, p))

-- a cut stands between characters
pub boundary : (bs ds : List ℕ) (n p : ℕ) → IsUtf8 bs → ds ≡ bs → CutAt bs n p → IsCharBoundary ds p
boundary bs ds n p u e cut = subst (λ l. IsCharBoundary l p) (sym e) (IsCharBoundary-from_take bs p u cut.within cut.front_utf8)

pub cut_same : (bs ds : List ℕ) (n p : ℕ) → ds ≡ bs → CutAt ds n p → CutAt bs n p
cut_same bs ds n p e cut = subst (λ l. CutAt l n p) e cut

-- a cut of what follows a cut
pub cut_twice : (bs rest : List ℕ) (n m p q : ℕ) → CutAt bs n p → rest ≡ drop p bs → CutAt rest m q → CutAt bs (n + m) (p + q)
cut_twice bs rest n m p q one e other =
    let two : CutAt (drop p bs) m q = cut_same (drop p bs) rest m q e other in
    let front : take (p + q) bs ≡ take p bs ++ take q (drop p bs) = take-add p q bs in
    let back : drop q (drop p bs) ≡ drop (p + q) bs = drop-drop q p bs in
    record {
      within = omega (arith, one.within, two.within, length-drop p bs);
      front_utf8 = subst IsUtf8 (sym front) (IsUtf8-append (take p bs) (take q (drop p bs)) one.front_utf8 two.front_utf8);
      back_utf8 = subst IsUtf8 back two.back_utf8;
      front = ap chars front ∙ chars-append (take p bs) (take q (drop p bs)) one.front_utf8
          ∙ ap (λ l. l ++ chars (take q (drop p bs))) one.front ∙ ap (λ l. take n (chars bs) ++ l) (two.front ∙ ap (take m) one.back)
          ∙ sym (take-add n m (chars bs));
      back = ap chars (sym back) ∙ two.back ∙ ap (drop m) one.back ∙ drop-drop m n (chars bs);
    }

-- the characters after an edit between two cuts
replaced : (bs xs : List ℕ) (n m p q : ℕ) → CutAt bs n p → CutAt bs m q → IsUtf8 xs → chars (replace_range bs p q xs) ≡ take n (chars bs) ++ (chars xs ++ drop m (chars bs))
replaced bs xs n m p q one two u =
    chars-append (take p bs ++ xs) (drop q bs) (IsUtf8-append (take p bs) xs one.front_utf8 u)
    ∙ ap (λ l. l ++ chars (drop q bs)) (chars-append (take p bs) xs one.front_utf8)
    ∙ append_assoc (chars (take p bs)) (chars xs) (chars (drop q bs))
    ∙ ap (λ l. l ++ (chars xs ++ chars (drop q bs))) one.front
    ∙ ap (λ l. take n (chars bs) ++ (chars xs ++ l)) two.back

pub inserted : (bs new xs : List ℕ) (n p : ℕ) → CutAt bs n p → IsUtf8 xs → new ≡ replace_range bs p p xs → chars new ≡ take n (chars bs) ++ (chars xs ++ drop n (chars bs))
inserted bs new xs n p cut u e = ap chars e ∙ replaced bs xs n n p p cut cut u

pub removed : (bs new : List ℕ) (n m p q : ℕ) → CutAt bs n p → CutAt bs m q → new ≡ replace_range bs p q [] → chars new ≡ take n (chars bs) ++ drop m (chars bs)
removed bs new n m p q one two e = ap chars e ∙ replaced bs [] n m p q one two IsUtf8-nil ∙ ap (λ l. take n (chars bs) ++ (l ++ drop m (chars bs))) chars-nil

-- what is kept of a text after an insertion, and after characters went
pub inserted_counted : (bs new xs : List ℕ) (told more n p : ℕ) → IsCounted bs told → HasNoZero xs → IsUtf8 xs → length bs + length xs < 4294967296 → more ≡ length (chars xs) → n ≤ told → CutAt bs n p → new ≡ replace_range bs p p xs → IsCounted new (told + more)
inserted_counted bs new xs told more n p is no_zero u fits e le cut same =
    let cs = chars bs in
    let counts : length (chars new) ≡ length cs + length (chars xs) =
    simp length-append at (ap length (inserted bs new xs n p cut u same)) ∙ lengths n cs (length (chars xs)) (omega (arith, is.counted, le)) in
    record {
      text = record {
        no_zero = subst HasNoZero (sym same) (no_zero-append (take p bs ++ xs) (drop p bs) (no_zero-append (take p bs) xs (no_zero-take p bs is.text.no_zero) no_zero) (no_zero-drop p bs is.text.no_zero));
        counted = omega (arith, fits, ap length same, length-append (take p bs ++ xs) (drop p bs), length-append (take p bs) xs, length-take-le p bs cut.within, length-drop p bs);
      };
      counted = omega (arith, counts, is.counted, e);
    }
  where
    lengths : (n : ℕ) (cs : List ℕ) (k : ℕ) → n ≤ length cs → length (take n cs) + (k + length (drop n cs)) ≡ length cs + k
    lengths n cs k le = omega (arith, length-take-le n cs le, length-drop n cs)

pub removed_counted : (bs new : List ℕ) (told n len p q : ℕ) → IsCounted bs told → n + len ≤ told → CutAt bs n p → CutAt bs (n + len) (p + q) → new ≡ replace_range bs p (p + q) [] → IsCounted new (told - len)
removed_counted bs new told n len p q is le one two same =
    let cs = chars bs in
    let counts : length (chars new) ≡ length (take n cs) + length (drop (n + len) cs) = ap length (removed bs new n (n + len) p (p + q) one two same) ∙ length-append (take n cs) (drop (n + len) cs) in
    record {
      text = record {
        no_zero = subst HasNoZero (sym same) (no_zero-append (take p bs ++ []) (drop (p + q) bs) (no_zero-append (take p bs) [] (no_zero-take p bs is.text.no_zero) refl) (no_zero-drop (p + q) bs is.text.no_zero));
        counted = omega (arith, is.text.counted, ap length same, length-append (take p bs ++ []) (drop (p + q) bs), length-append (take p bs) [], length-take-le p bs one.within, length-drop (p + q) bs);
      };
      counted = omega (arith, counts, is.counted, le, length-take-le n cs (omega (arith, is.counted, le)), length-drop (n + len) cs);
    }

-- bytes of a text are no more than its characters are
pub count_fits : (bs : List ℕ) (told : ℕ) → IsUtf8 bs → IsCounted bs told → told < 4294967296
count_fits bs told u is = omega (arith, is.counted, is.text.counted, length-chars-le bs u)

-- a part reads as the text of its characters
pub part_reads : (bs rest : List ℕ) (told n m p q : ℕ) → IsCounted bs told → CutAt bs n p → rest ≡ drop p bs → CutAt rest m q → text_in (take q rest) ≡ Ok (take m (drop n (chars bs)))
part_reads bs rest told n m p q is one e two =
    let clean : HasNoZero (take q rest) = no_zero-take q rest (subst HasNoZero (sym e) (no_zero-drop p bs is.text.no_zero)) in
    whole (take q rest) (bytes_before_zero (take q rest)) two.front_utf8 refl (omega (arith, clean))
    ∙ ap Ok (two.front ∙ ap (take m) (ap chars e ∙ one.back))

-- so it is not refused
pub not_zero : (r : Result Text TextFault) (e : TextFault) (k : ℕ) (bytes cs : List ℕ) → ReadsText r bytes → text_in bytes ≡ Ok cs → r ≡ Err e → e ≡ Zero k → ⊥
not_zero r e k bytes cs h ok is what =
    let told : text_in bytes ≡ Err (Zero k) = subst (λ x. ReadsText x bytes) (is ∙ ap Err what) h in cc

pub not_utf8 : (r : Result Text TextFault) (e : TextFault) (k : ℕ) (bytes cs : List ℕ) → ReadsText r bytes → text_in bytes ≡ Ok cs → r ≡ Err e → e ≡ Utf8 k → ⊥
not_utf8 r e k bytes cs h ok is what =
    let told : text_in bytes ≡ Err (Utf8 k) = subst (λ x. ReadsText x bytes) (is ∙ ap Err what) h in cc

pub reads_so : (r : Result Text TextFault) (t : List ℕ) (bytes cs : List ℕ) → ReadsText r bytes → text_in bytes ≡ Ok cs → r ≡ Ok t → t ≡ cs
reads_so r t bytes cs h ok is =
    let told : text_in bytes ≡ Ok t = subst (λ x. ReadsText x bytes) is h in cc

-- a cut that needs no more room is done
pub room : {Z : Type 0} (s : String Z) → string_len s ≤ string_capacity s
room s = (string_vec s).ok.1

pub done : {T E P Q : Type 0} (r : Result T E) → OnOk r P → OnErr r Q → (Q → ⊥) → P
done (Ok x) p q never = p
done (Err e) p q never = absurd (never q)

pub done_unless : {T E P : Type 0} (r : Result T E) (b : Bool) → OnOk r P → b ≡ is_err r → b ≡ false → P
done_unless (Ok x) b p e f = p
done_unless (Err x) b p e f = absurd cc

pub undone : {T E P : Type 0} (r : Result T E) (b : Bool) → OnErr r P → b ≡ is_err r → b ≡ true → P
undone (Ok x) b p e f = absurd cc
undone (Err x) b p e f = p

pub len_is : {Z : Type 0} (s : String Z) → string_len s ≡ length (string_bytes s)
len_is s = (string_vec s).ok.0
