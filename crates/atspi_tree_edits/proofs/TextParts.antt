-- A part of a text: its characters spell bytes without a zero, no more than the whole text has.
use Rattle.std.proofs.Common.{◌≡◌, ℕ, zero, suc, ◌<◌, ◌≤◌, Bool, true, false, None, List, [], ◌∷◌, ◌++◌, length, take, drop, refl, sym, ap, ◌∙◌, subst, arith, length-append, encode_utf8_all}
use Rattle.std.specs.Prelude.{◌||◌, nat_lt}
use Rattle.std.proofs.lemmas.Bool.{ltb-false}
use Rattle.std.proofs.lemmas.List.{take-append-drop}
use Rattle.std.proofs.lemmas.Str.{encodes-append}
use Rattle.atspi_base.specs.Text.{HasNoZero, bytes_before_zero}
use Rattle.atspi_tree_model.specs.declared.contents.FaceData.{FaceData}
use Rattle.atspi_tree_model.specs.declared.edit.Edit.TheVariants.{Cut}
use Rattle.atspi_tree_model.specs.Edits.{first_fault, known_text, lacks_kind, lacks_node, refusals}
use Rattle.atspi_tree_model.proofs.EditLemmas.{none_of}
use Rattle.atspi_tree.specs.TreeShape.{TreeShape}

before_le : (bytes : List ℕ) → bytes_before_zero bytes ≤ length bytes
before_le [] = omega arith
before_le (zero ∷ bytes) = omega arith
before_le (suc b ∷ bytes) = omega (arith, before_le bytes)

front_no_zero : (xs ys : List ℕ) → HasNoZero (xs ++ ys) → HasNoZero xs
front_no_zero [] ys h = refl
front_no_zero (zero ∷ xs) ys h = absurd (omega (arith, h))
front_no_zero (suc x ∷ xs) ys h = ap suc (front_no_zero xs ys (omega (arith, h)))

back_no_zero : (xs ys : List ℕ) → HasNoZero (xs ++ ys) → HasNoZero ys
back_no_zero [] ys h = h
back_no_zero (zero ∷ xs) ys h = absurd (omega (arith, h))
back_no_zero (suc x ∷ xs) ys h = back_no_zero xs ys (omega (arith, h))

split : (n : ℕ) (cs : List ℕ) → encode_utf8_all cs ≡ encode_utf8_all (take n cs) ++ encode_utf8_all (drop n cs)
split n cs = ap encode_utf8_all (sym (take-append-drop n cs)) ∙ encodes-append (take n cs) (drop n cs)

pub part_no_zero : (cs : List ℕ) (from n : ℕ) → HasNoZero (encode_utf8_all cs) → HasNoZero (encode_utf8_all (take n (drop from cs)))
part_no_zero cs from n h =
    let back : HasNoZero (encode_utf8_all (drop from cs)) = back_no_zero (encode_utf8_all (take from cs)) (encode_utf8_all (drop from cs)) (subst HasNoZero (split from cs) h) in
    front_no_zero (encode_utf8_all (take n (drop from cs))) (encode_utf8_all (drop n (drop from cs))) (subst HasNoZero (split n (drop from cs)) back)

pub part_counted : (cs : List ℕ) (from n : ℕ) → length (encode_utf8_all cs) < 4294967296 → length (encode_utf8_all (take n (drop from cs))) < 4294967296
part_counted cs from n h =
    let a = ap length (split from cs) in
    let b = length-append (encode_utf8_all (take from cs)) (encode_utf8_all (drop from cs)) in
    let c = ap length (split n (drop from cs)) in
    let d = length-append (encode_utf8_all (take n (drop from cs))) (encode_utf8_all (drop n (drop from cs))) in
    omega arith

-- a cut that is not refused is in the text
pub in_text : (t : TreeShape) (known : FaceData) (n from to : ℕ) → first_fault (refusals t.rows t.added known (Cut n from to)) ≡ None
    → (from ≤ to) × (to ≤ length (known_text known).characters)
in_text t known n from to e =
    let one = none_of (lacks_node t.rows n) _ _ e in
    let two = none_of (lacks_kind (λ k. k.editable) t.rows n) _ _ one.1 in
    let three = none_of (nat_lt to from || nat_lt (length (known_text known).characters) to) _ _ two.1 in
    let both = neither (nat_lt to from) (nat_lt (length (known_text known).characters) to) three.0 in
    (ltb-false to from both.0, ltb-false (length (known_text known).characters) to both.1)
  where
    neither : (a b : Bool) → a || b ≡ false → (a ≡ false) × (b ≡ false)
    neither true b e = cc
    neither false b e = (refl, e)
