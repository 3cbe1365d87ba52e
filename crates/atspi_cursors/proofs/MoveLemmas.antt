-- What a cursor keeps over a change of its text.
use Rattle.std.proofs.Common.{◌≡◌, ℕ, zero, suc, ◌+◌, ◌-◌, ◌<◌, ◌≤◌, Bool, true, false, cond, ltb, leb, List, [], ◌∷◌, ◌++◌, length, take, drop, refl, sym, ap, ◌∙◌, arith, length-append, append_assoc}
use Rattle.std.proofs.lemmas.Bool.{lt-ltb, le-ltb, le-leb}
use Rattle.std.proofs.lemmas.Bool.Decides.{leb_tells}
use Rattle.std.proofs.lemmas.List.{drop_at, drop-drop, take-append-le, take_at, take-append-drop, length-take-le, length-drop}
use Rattle.atspi_cursors.specs.Moves.{after_insertion, after_deletion, with_insertion, with_deletion}

insertion_moves : (cursor at count : ℕ) → at < cursor → after_insertion cursor at count ≡ cursor + count
insertion_moves cursor at count h = ap (λ b. cond b (cursor + count) cursor) (lt-ltb at cursor h)

insertion_stays : (cursor at count : ℕ) → cursor ≤ at → after_insertion cursor at count ≡ cursor
insertion_stays cursor at count h = ap (λ b. cond b (cursor + count) cursor) (le-ltb at cursor h)

deletion_stays : (cursor at count : ℕ) → cursor ≤ at → after_deletion cursor at count ≡ cursor
deletion_stays cursor at count h = ap (λ b. cond b cursor (cond (leb cursor (at + count)) at (cursor - count))) (le-leb cursor at h)

deletion_around : (cursor at count : ℕ) → at ≤ cursor → cursor ≤ at + count → after_deletion cursor at count ≡ at
deletion_around cursor at count low high = grind (arith, leb_tells)

deletion_moves : (cursor at count : ℕ) → at + count ≤ cursor → after_deletion cursor at count ≡ cursor - count
deletion_moves cursor at count h = grind (arith, leb_tells)

-- what stands behind the first so many characters of two parts
behind : (front back : List ℕ) (n k : ℕ) → length front + k ≡ n → drop n (front ++ back) ≡ drop k back
behind front back n k e =
    ap (λ m. drop m (front ++ back)) (sym e) ∙ sym (drop-drop k (length front) (front ++ back))
    ∙ ap (drop k) (drop_at front back (length front) refl)

take-take : (n m : ℕ) (cs : List ℕ) → n ≤ m → take n (take m cs) ≡ take n cs
take-take zero m cs le = refl
take-take (suc n) zero cs le = absurd (omega arith)
take-take (suc n) (suc m) [] le = refl
take-take (suc n) (suc m) (c ∷ cs) le = ap (λ l. c ∷ l) (take-take n m cs (omega arith))

pub insertion_before : (text more : List ℕ) (at cursor : ℕ) → at < cursor → cursor ≤ length text
    → drop (after_insertion cursor at (length more)) (with_insertion text at more) ≡ drop cursor text
insertion_before text more at cursor lt within =
    let len : length (take at text) ≡ at = length-take-le at text (omega (arith, lt, within)) in
    let joined : with_insertion text at more ≡ (take at text ++ more) ++ drop at text = sym (append_assoc (take at text) more (drop at text)) in
    let e : at + (cursor - at) ≡ cursor = omega arith in
    ap (λ n. drop n (with_insertion text at more)) (insertion_moves cursor at (length more) lt)
    ∙ ap (drop (cursor + length more)) joined
    ∙ behind (take at text ++ more) (drop at text) (cursor + length more) (cursor - at) (omega (arith, length-append (take at text) more, len, lt))
    ∙ drop-drop (cursor - at) at text ∙ ap (λ n. drop n text) e

-- a front of the first part
front_of : (front back : List ℕ) (n : ℕ) → n ≤ length front → take n (front ++ back) ≡ take n front
front_of front back n le = take-append-le n front back le

pub insertion_behind : (text more : List ℕ) (at cursor : ℕ) → cursor ≤ at → at ≤ length text
    → take (after_insertion cursor at (length more)) (with_insertion text at more) ≡ take cursor text
insertion_behind text more at cursor le within =
    let len : length (take at text) ≡ at = length-take-le at text within in
    ap (λ n. take n (with_insertion text at more)) (insertion_stays cursor at (length more) le)
    ∙ front_of (take at text) (more ++ drop at text) cursor (omega (arith, len, le)) ∙ take-take cursor at text le

pub deletion_before : (text : List ℕ) (at count cursor : ℕ) → at + count ≤ cursor → cursor ≤ length text
    → drop (after_deletion cursor at count) (with_deletion text at count) ≡ drop cursor text
deletion_before text at count cursor le within =
    let len : length (take at text) ≡ at = length-take-le at text (omega (arith, le, within)) in
    let e : at + count + (cursor - (at + count)) ≡ cursor = omega (arith, le) in
    ap (λ n. drop n (with_deletion text at count)) (deletion_moves cursor at count le)
    ∙ behind (take at text) (drop (at + count) text) (cursor - count) (cursor - (at + count)) (omega (arith, len, le))
    ∙ drop-drop (cursor - (at + count)) (at + count) text ∙ ap (λ n. drop n text) e

pub deletion_behind : (text : List ℕ) (at count cursor : ℕ) → cursor ≤ at → at ≤ length text
    → take (after_deletion cursor at count) (with_deletion text at count) ≡ take cursor text
deletion_behind text at count cursor le within =
    let len : length (take at text) ≡ at = length-take-le at text within in
    ap (λ n. take n (with_deletion text at count)) (deletion_stays cursor at count le)
    ∙ front_of (take at text) (drop (at + count) text) cursor (omega (arith, len, le)) ∙ take-take cursor at text le

pub deletion_inside : (text : List ℕ) (at count cursor : ℕ) → at ≤ cursor → cursor ≤ at + count → at ≤ length text
    → take (after_deletion cursor at count) (with_deletion text at count) ≡ take at text
deletion_inside text at count cursor low high within =
    let len : length (take at text) ≡ at = length-take-le at text within in
    ap (λ n. take n (with_deletion text at count)) (deletion_around cursor at count low high)
    ∙ take_at (take at text) (drop (at + count) text) at len

-- a cursor inside its text stays inside it
pub insertion_within : (text more : List ℕ) (at cursor : ℕ) → cursor ≤ length text
    → after_insertion cursor at (length more) ≤ length (with_insertion text at more)
insertion_within text more at cursor within =
    by_test (ltb at cursor)
  where
    by_test : (b : Bool) → cond b (cursor + length more) cursor ≤ length (with_insertion text at more)
    by_test true = omega (arith, within, ap length (take-append-drop at text), length-append (take at text) (drop at text), length-append (take at text) (more ++ drop at text), length-append more (drop at text))
    by_test false = omega (arith, within, ap length (take-append-drop at text), length-append (take at text) (drop at text), length-append (take at text) (more ++ drop at text), length-append more (drop at text))

pub deletion_within : (text : List ℕ) (at count cursor : ℕ) → cursor ≤ length text → at + count ≤ length text
    → after_deletion cursor at count ≤ length (with_deletion text at count)
deletion_within text at count cursor within inside =
    let len = length-take-le at text (omega (arith, inside)) in
    let rest = length-drop (at + count) text in
    let joined = length-append (take at text) (drop (at + count) text) in
    let few : length (with_deletion text at count) ≡ length text - count = omega (arith, len, rest, joined, inside) in
    fits (length (with_deletion text at count)) few
  where
    fits : (n : ℕ) → n ≡ length text - count → after_deletion cursor at count ≤ n
    fits n e = grind (arith, leb_tells)
