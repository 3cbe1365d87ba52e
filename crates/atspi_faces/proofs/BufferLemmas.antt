-- What stands before and behind a gap after bytes were moved or written.
use Rattle.std.proofs.Common.{◌≡◌, ℕ, ◌+◌, ◌-◌, ◌≤◌, List, ◌++◌, length, take, drop, sym, ap, ◌∙◌, arith, length-append}
use Rattle.std.proofs.lemmas.List.{append_assoc, take_at, drop_at, drop-drop, drop-take, length-take-le, length-take, length-drop, take-append-le, take-take}
use Rattle.std.specs.List.{copy_within}
use Rattle.std.proofs.lemmas.List.Edits.{drop-paste}
use lib.Seq.{paste}

module _ {X : Type 0} where
  grouped : (xs w : List X) (at : ℕ) → take at xs ++ (w ++ drop (at + length w) xs) ≡ (take at xs ++ w) ++ drop (at + length w) xs
  grouped xs w at = sym (append_assoc (take at xs) w _)

  front_len : (xs w : List X) (at : ℕ) → at ≤ length xs → length (take at xs ++ w) ≡ at + length w
  front_len xs w at le = omega (arith, length-append (take at xs) w, length-take-le at xs le)

  -- the bytes up to the end of what was written, and those from a later place on
  pub written_front : (xs new w : List X) (at : ℕ) → at ≤ length xs → new ≡ take at xs ++ (w ++ drop (at + length w) xs) → take (at + length w) new ≡ take at xs ++ w
  written_front xs new w at le e = ap (take (at + length w)) (e ∙ grouped xs w at) ∙ take_at (take at xs ++ w) _ (at + length w) (front_len xs w at le)

  pub written_back : (xs new w : List X) (at end : ℕ) → at + length w ≤ end → end ≤ length xs → new ≡ take at xs ++ (w ++ drop (at + length w) xs) → drop end new ≡ drop end xs
  written_back xs new w at end le lt e =
      let m = at + length w in
      let k : m + (end - m) ≡ end = omega arith in
      let at_m : drop m new ≡ drop m xs = ap (drop m) (e ∙ grouped xs w at) ∙ drop_at (take at xs ++ w) _ m (front_len xs w at (omega arith)) in
      ap (λ n. drop n new) (sym k) ∙ sym (drop-drop (end - m) m new) ∙ ap (drop (end - m)) at_m ∙ drop-drop (end - m) m xs ∙ ap (λ n. drop n xs) k

  pub written_before : (xs new w : List X) (at start : ℕ) → start ≤ at → at ≤ length xs → new ≡ take at xs ++ (w ++ drop (at + length w) xs) → take start new ≡ take start xs
  written_before xs new w at start le lt e =
      ap (take start) e ∙ take-append-le start (take at xs) _ (omega (arith, length-take-le at xs lt)) ∙ taken start at xs le
    where
      taken : (m n : ℕ) (l : List X) → m ≤ n → take m (take n l) ≡ take m l
      taken m n l le = take-take m n l le

  pub moved_left : (xs new : List X) (at start end : ℕ) → at ≤ start → start ≤ end → end ≤ length xs → new ≡ copy_within xs at start (end - (start - at)) → drop (end - (start - at)) new ≡ drop at (take start xs) ++ drop end xs
  moved_left xs new at start end le lt within e =
      let n = start - at in
      let dest = end - n in
      let sum : dest + n ≡ end = omega arith in
      let upto : at + n ≡ start = omega arith in
      ap (drop dest) (e ∙ append_assoc (take dest xs) (take n (drop at xs)) (drop (dest + n) xs))
      ∙ drop_at (take dest xs) _ dest (length-take-le dest xs (omega arith))
      ∙ ap (λ l. l ++ drop (dest + n) xs) (sym (drop-take at n xs))
      ∙ ap (λ m. drop at (take m xs) ++ drop (dest + n) xs) upto
      ∙ ap (λ m. drop at (take start xs) ++ drop m xs) sum

  pub moved_right : (xs new : List X) (start end len : ℕ) → start ≤ end → end + len ≤ length xs → new ≡ copy_within xs end (end + len) start → drop (end + len) new ≡ drop len (drop end xs)
  moved_right xs new start end len le within e =
      let n : end + len - end ≡ len = omega arith in
      let k = end - start in
      let sum : start + len + k ≡ end + len = omega arith in
      let fits : len ≤ length (drop end xs) = omega (arith, length-drop end xs) in
      ap (λ m. drop m new) (sym sum) ∙ sym (drop-drop k (start + len) new)
      ∙ ap (λ l. drop k (drop (start + len) l)) (e ∙ ap (λ m. paste xs start (drop end xs) m) n)
      ∙ ap (drop k) (drop-paste xs start (drop end xs) len (omega arith) fits)
      ∙ drop-drop k (start + len) xs ∙ ap (λ m. drop m xs) sum ∙ sym (drop-drop len end xs)

pub at_most : {X : Type 0} (xs : List X) (start at : ℕ) (front : List X) → take start xs ≡ front → at ≤ length front → at ≤ start
at_most xs start at front e le = omega (arith, ap length e, length-take start xs, le)
