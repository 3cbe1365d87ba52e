-- The bytes of blocks, and what a write into one leaves.
use Rattle.std.proofs.Common.{◌≡◌, ◌≢◌, ℕ, suc, ◌+◌, ◌-◌, ◌*◌, ◌<◌, ◌≤◌, List, [], ◌∷◌, ◌++◌, cond, length, take, drop, refl, sym, ap, ◌∙◌, arith, zero-add, inl, inr, eq-eqb}
use Rattle.std.proofs.lemmas.List.{length-append, length-take, length-drop, take_at, drop_at, take-append-drop, take-append-le, drop-append-le, drop-drop, drop-take, take-take, append_assoc, append-nil, take_all, take_more, length-take-le}
use Rattle.std.proofs.lemmas.Bool.{cases_lt}
use Rattle.atspi_pool.specs.Links.{times, last_of}
use Rattle.atspi_pool.specs.Store.{block_bytes, contents, written}
use Rattle.atspi_pool.proofs.WalkLemmas.{times-cons, times-append, other_head, none_behind}

pub length-block : (bytes : List ℕ) (b made : ℕ) → length bytes ≡ 256 * made → b < made → length (block_bytes bytes b) ≡ 256
length-block bytes b made room lt = omega (arith, length-take 256 (drop (256 * b) bytes), length-drop (256 * b) bytes)

pub contents-append : (bytes xs ys : List ℕ) → contents bytes (xs ++ ys) ≡ contents bytes xs ++ contents bytes ys
contents-append bytes [] ys = refl
contents-append bytes (x ∷ xs) ys =
    ap (λ w. block_bytes bytes x ++ w) (contents-append bytes xs ys) ∙ sym (append_assoc (block_bytes bytes x) (contents bytes xs) (contents bytes ys))

abbrev pub AllMade : ℕ → List ℕ → Type 0
AllMade made xs = (x : ℕ) → 1 ≤ times x xs → x < made

pub AllMade-head : (made x : ℕ) (xs : List ℕ) → AllMade made (x ∷ xs) → x < made
AllMade-head made x xs h = h x (omega (arith, times-cons x x xs, ap (λ b. cond {A = ℕ} b 1 0) (eq-eqb x x refl)))

pub AllMade-rest : (made x : ℕ) (xs : List ℕ) → AllMade made (x ∷ xs) → AllMade made xs
AllMade-rest made x xs h y here = h y (omega (arith, times-cons y x xs))

pub length-contents : (bytes : List ℕ) (made : ℕ) (xs : List ℕ) → length bytes ≡ 256 * made → AllMade made xs → length (contents bytes xs) ≡ 256 * length xs
length-contents bytes made [] room all = refl
length-contents bytes made (x ∷ xs) room all =
    omega (arith, length-append (block_bytes bytes x) (contents bytes xs), length-block bytes x made room (AllMade-head made x xs all), length-contents bytes made xs room (AllMade-rest made x xs all))

pub AllMade-take : (made k : ℕ) (xs : List ℕ) → AllMade made xs → AllMade made (take k xs)
AllMade-take made k xs all x here =
    let e : times x (take k xs) + times x (drop k xs) ≡ times x xs = sym (times-append x (take k xs) (drop k xs)) ∙ ap (times x) (take-append-drop k xs) in
    all x (omega arith)

pub contents-take : (bytes : List ℕ) (made k : ℕ) (xs : List ℕ) → length bytes ≡ 256 * made → AllMade made xs → k ≤ length xs
    → contents bytes (take k xs) ≡ take (256 * k) (contents bytes xs)
contents-take bytes made k xs room all le =
    let whole : contents bytes xs ≡ contents bytes (take k xs) ++ contents bytes (drop k xs) =
    ap (contents bytes) (sym (take-append-drop k xs)) ∙ contents-append bytes (take k xs) (drop k xs) in
    let size : length (contents bytes (take k xs)) ≡ 256 * k =
    length-contents bytes made (take k xs) room (AllMade-take made k xs all) ∙ ap (λ n. 256 * n) (length-take-le k xs le) in
    sym (ap (take (256 * k)) whole ∙ take_at (contents bytes (take k xs)) (contents bytes (drop k xs)) (256 * k) size)

pub contents-drop : (bytes : List ℕ) (made k : ℕ) (xs : List ℕ) → length bytes ≡ 256 * made → AllMade made xs → k ≤ length xs
    → contents bytes (drop k xs) ≡ drop (256 * k) (contents bytes xs)
contents-drop bytes made k xs room all le =
    let whole : contents bytes xs ≡ contents bytes (take k xs) ++ contents bytes (drop k xs) =
    ap (contents bytes) (sym (take-append-drop k xs)) ∙ contents-append bytes (take k xs) (drop k xs) in
    let size : length (contents bytes (take k xs)) ≡ 256 * k =
    length-contents bytes made (take k xs) room (AllMade-take made k xs all) ∙ ap (λ n. 256 * n) (length-take-le k xs le) in
    sym (ap (drop (256 * k)) whole ∙ drop_at (contents bytes (take k xs)) (contents bytes (drop k xs)) (256 * k) size)

pub contents-more : (bytes more : List ℕ) (made : ℕ) (xs : List ℕ) → length bytes ≡ 256 * made → AllMade made xs
    → contents (bytes ++ more) xs ≡ contents bytes xs
contents-more bytes more made [] room all = refl
contents-more bytes more made (x ∷ xs) room all =
    let lt : x < made = AllMade-head made x xs all in
    let within : 256 * x ≤ length bytes = omega arith in
    let enough : 256 ≤ length (drop (256 * x) bytes) = omega (arith, length-drop (256 * x) bytes) in
    let same : block_bytes (bytes ++ more) x ≡ block_bytes bytes x =
    ap (take 256) (drop-append-le (256 * x) bytes more within) ∙ take-append-le 256 (drop (256 * x) bytes) more enough in
    ap (λ w. w ++ contents (bytes ++ more) xs) same
    ∙ ap (λ w. block_bytes bytes x ++ w) (contents-more bytes more made xs room (AllMade-rest made x xs all))

pub length_part : (c : List ℕ) (p len : ℕ) → p + len ≤ length c → length (drop p (take (p + len) c)) ≡ len
length_part c p len le = omega (arith, length-drop p (take (p + len) c), length-take (p + len) c)

-- a front goes: whole blocks, and a part of the next one
pub popped_part : (c : List ℕ) (p len n k q : ℕ) → 256 * k + q ≡ p + n → n ≤ len
    → drop q (take (q + (len - n)) (drop (256 * k) c)) ≡ drop n (drop p (take (p + len) c))
popped_part c p len n k q split le =
    let sum : 256 * k + (q + (len - n)) ≡ p + len = omega arith in
    ap (drop q) (sym (drop-take (256 * k) (q + (len - n)) c))
    ∙ ap (λ m. drop q (drop (256 * k) (take m c))) sum
    ∙ drop-drop q (256 * k) (take (p + len) c)
    ∙ ap (λ m. drop m (take (p + len) c)) split
    ∙ sym (drop-drop n p (take (p + len) c))

-- an end goes
pub cut_part : (c : List ℕ) (p len n k : ℕ) → p + (len - n) ≤ 256 * k
    → drop p (take (p + (len - n)) (take (256 * k) c)) ≡ take (len - n) (drop p (take (p + len) c))
cut_part c p len n k le =
    let less : len - n ≤ len = omega arith in
    ap (drop p) (take-take (p + (len - n)) (256 * k) c le) ∙ drop-take p (len - n) c
    ∙ sym (take-take (len - n) len (drop p c) less) ∙ ap (take (len - n)) (sym (drop-take p len c))

pub length-written : (bytes : List ℕ) (at : ℕ) (piece : List ℕ) → at + length piece ≤ length bytes → length (written bytes at piece) ≡ length bytes
length-written bytes at piece le =
    omega (arith, length-append (take at bytes) (piece ++ drop (at + length piece) bytes), length-append piece (drop (at + length piece) bytes), length-take at bytes, length-drop (at + length piece) bytes)

take-written_below : (bytes : List ℕ) (at n : ℕ) (piece : List ℕ) → at ≤ length bytes → n ≤ at → take n (written bytes at piece) ≡ take n bytes
take-written_below bytes at n piece fits le =
    take-append-le n (take at bytes) (piece ++ drop (at + length piece) bytes) (omega (arith, length-take at bytes)) ∙ take-take n at bytes le

drop-written_above : (bytes : List ℕ) (at n : ℕ) (piece : List ℕ) → at + length piece ≤ length bytes → at + length piece ≤ n → drop n (written bytes at piece) ≡ drop n bytes
drop-written_above bytes at n piece fits le =
    let e : n ≡ (at + length piece) + (n - (at + length piece)) = omega arith in
    let front : drop (at + length piece) (written bytes at piece) ≡ drop (at + length piece) bytes =
    ap (drop (at + length piece)) (sym (append_assoc (take at bytes) piece (drop (at + length piece) bytes)))
    ∙ drop_at (take at bytes ++ piece) (drop (at + length piece) bytes) (at + length piece) (omega (arith, length-append (take at bytes) piece, length-take at bytes)) in
    ap (λ m. drop m (written bytes at piece)) e ∙ sym (drop-drop (n - (at + length piece)) (at + length piece) (written bytes at piece))
    ∙ ap (drop (n - (at + length piece))) front ∙ drop-drop (n - (at + length piece)) (at + length piece) bytes ∙ ap (λ m. drop m bytes) (sym e)

take-written_end : (bytes : List ℕ) (at : ℕ) (piece : List ℕ) → at ≤ length bytes → take (at + length piece) (written bytes at piece) ≡ take at bytes ++ piece
take-written_end bytes at piece fits =
    ap (take (at + length piece)) (sym (append_assoc (take at bytes) piece (drop (at + length piece) bytes)))
    ∙ take_at (take at bytes ++ piece) (drop (at + length piece) bytes) (at + length piece) (omega (arith, length-append (take at bytes) piece, length-take at bytes))

take_beyond : (xs ys : List ℕ) (k : ℕ) → take (length xs + k) (xs ++ ys) ≡ xs ++ take k ys
take_beyond [] ys k = ap (λ n. take n ys) (zero-add k)
take_beyond (x ∷ xs) ys k =
    let e : suc (length xs) + k ≡ suc (length xs + k) = omega arith in
    ap (λ n. take n (x ∷ (xs ++ ys))) e ∙ ap (λ w. x ∷ w) (take_beyond xs ys k)

module _ (bytes : List ℕ) (b o : ℕ) (piece : List ℕ) (fits : 256 * b + o + length piece ≤ length bytes) (inside : o + length piece ≤ 256) where
  -- other blocks stay
  pub block-written_other : (c : ℕ) → c ≢ b → block_bytes (written bytes (256 * b + o) piece) c ≡ block_bytes bytes c
  block-written_other c ne =
      elim (cases_lt c b) [
        | inl lt ↦
            let le : 256 * c + 256 ≤ 256 * b + o = omega arith in
            sym (drop-take (256 * c) 256 (written bytes (256 * b + o) piece))
            ∙ ap (drop (256 * c)) (take-written_below bytes (256 * b + o) (256 * c + 256) piece (omega arith) le)
            ∙ drop-take (256 * c) 256 bytes
        | inr ge ↦
            let le : 256 * b + o + length piece ≤ 256 * c = let gt : b < c = omega arith in omega arith in
            ap (take 256) (drop-written_above bytes (256 * b + o) (256 * c) piece fits le)
      ]

  -- the piece stands behind the front of the block
  pub block-written_same : take (o + length piece) (block_bytes (written bytes (256 * b + o) piece) b) ≡ take o (block_bytes bytes b) ++ piece
  block-written_same =
      let sum : 256 * b + (o + length piece) ≡ 256 * b + o + length piece = omega arith in
      let small : o ≤ 256 = omega arith in
      take-take (o + length piece) 256 (drop (256 * b) (written bytes (256 * b + o) piece)) inside
      ∙ sym (drop-take (256 * b) (o + length piece) (written bytes (256 * b + o) piece))
      ∙ ap (λ m. drop (256 * b) (take m (written bytes (256 * b + o) piece))) sum
      ∙ ap (drop (256 * b)) (take-written_end bytes (256 * b + o) piece (omega arith))
      ∙ drop-append-le (256 * b) (take (256 * b + o) bytes) piece (omega (arith, length-take (256 * b + o) bytes))
      ∙ ap (λ w. w ++ piece) (drop-take (256 * b) o bytes ∙ sym (take-take o 256 (drop (256 * b) bytes) small))

  pub contents-written : (xs : List ℕ) → times b xs ≡ 0 → contents (written bytes (256 * b + o) piece) xs ≡ contents bytes xs
  contents-written [] none = refl
  contents-written (x ∷ xs) none =
      ap (λ w. w ++ contents (written bytes (256 * b + o) piece) xs) (block-written_other x (other_head b x xs none))
      ∙ ap (λ w. block_bytes bytes x ++ w) (contents-written xs (none_behind b x xs none))

  -- bytes up to a place in the last block, and the piece behind them
  pub pushed_contents : (xs : List ℕ) → times b xs ≡ 0 → length (contents bytes xs) ≡ 256 * length xs
      → take (256 * length xs + o + length piece) (contents (written bytes (256 * b + o) piece) (xs ++ b ∷ []))
      ≡ take (256 * length xs + o) (contents bytes (xs ++ b ∷ [])) ++ piece
  pushed_contents xs none size =
      let front : contents (written bytes (256 * b + o) piece) (xs ++ b ∷ []) ≡ contents bytes xs ++ block_bytes (written bytes (256 * b + o) piece) b =
      contents-append (written bytes (256 * b + o) piece) xs (b ∷ []) ∙ ap (λ w. w ++ contents (written bytes (256 * b + o) piece) (b ∷ [])) (contents-written xs none)
      ∙ ap (λ w. contents bytes xs ++ w) (append-nil (block_bytes (written bytes (256 * b + o) piece) b)) in
      let before : contents bytes (xs ++ b ∷ []) ≡ contents bytes xs ++ block_bytes bytes b =
      contents-append bytes xs (b ∷ []) ∙ ap (λ w. contents bytes xs ++ w) (append-nil (block_bytes bytes b)) in
      let m : 256 * length xs + o + length piece ≡ length (contents bytes xs) + (o + length piece) = omega arith in
      let k : 256 * length xs + o ≡ length (contents bytes xs) + o = omega arith in
      ap (λ w. take (256 * length xs + o + length piece) w) front
      ∙ ap (λ n. take n (contents bytes xs ++ block_bytes (written bytes (256 * b + o) piece) b)) m
      ∙ take_beyond (contents bytes xs) (block_bytes (written bytes (256 * b + o) piece) b) (o + length piece)
      ∙ ap (λ w. contents bytes xs ++ w) block-written_same
      ∙ sym (append_assoc (contents bytes xs) (take o (block_bytes bytes b)) piece)
      ∙ ap (λ w. w ++ piece) (sym (take_beyond (contents bytes xs) (block_bytes bytes b) o))
      ∙ ap (λ n. take n (contents bytes xs ++ block_bytes bytes b) ++ piece) (sym k)
      ∙ ap (λ w. take (256 * length xs + o) w ++ piece) (sym before)

pub last_split : (xs : List ℕ) → 0 < length xs → xs ≡ take (length xs - 1) xs ++ last_of xs ∷ []
last_split xs some =
    let lt : length xs - 1 < length xs = omega arith in
    let le : length xs ≤ length xs - 1 + 1 = omega arith in
    sym (take_all (length xs - 1 + 1) xs le) ∙ take_more xs (length xs - 1) 0 lt
