-- How the lines of some bytes follow from those of their parts.
use Rattle.std.proofs.Common.{◌≡◌, ℕ, suc, ◌+◌, ◌-◌, take, get_or, ◌<◌, ◌≤◌, ◌==◌, ◌&&◌, Bool, true, false, cond, List, [], ◌∷◌, ◌++◌, length, refl, sym, ◌∙◌, ap, subst, arith, append_assoc, length-append}
use Rattle.std.proofs.lemmas.List.{take_more, take-append-le, length-take}
use Rattle.std.proofs.Math.Seq.{take-append_seam}
use Rattle.std.proofs.lemmas.Bool.{and_parts, eqb-true}
use Rattle.atspi_auth.specs.Lines.{Lines, end_of_line, onto, lines_of, HasNoEnd, joined, ends_in_return}

-- whole lines in front of lines
abbrev pub prepend : List (List ℕ) → Lines → Lines
prepend first lines = record { whole = first ++ lines.whole; rest = lines.rest }

-- the two bytes are CR LF
abbrev pub is_end : ℕ → ℕ → Bool
is_end b c = b == 13 && c == 10

-- the lines behind a CR LF
abbrev pub ended : List ℕ → Lines
ended more = record { whole = [] ∷ (lines_of more).whole; rest = (lines_of more).rest }

-- the lines behind another byte
abbrev pub extended : ℕ → List ℕ → Lines
extended b more = onto b (lines_of more).whole (lines_of more).rest

lines_of-cons : (b c : ℕ) (more : List ℕ) → lines_of (b ∷ c ∷ more) ≡ cond (is_end b c) (ended more) (extended b (c ∷ more))
unfolding lines_of
lines_of-cons b c more = refl

pub lines_of-extended : (b c : ℕ) (more : List ℕ) → is_end b c ≡ false → lines_of (b ∷ c ∷ more) ≡ extended b (c ∷ more)
lines_of-extended b c more h = lines_of-cons b c more ∙ ap (λ t. cond t (ended more) (extended b (c ∷ more))) h

onto_rest : (b c : ℕ) (more : List ℕ) (whole : List (List ℕ)) (rest : List ℕ) → (whole ≡ [] → rest ≡ c ∷ more)
    → (onto b whole rest).whole ≡ [] → (onto b whole rest).rest ≡ b ∷ c ∷ more
onto_rest b c more [] rest h k = ap (λ r. b ∷ r) (h refl)
onto_rest b c more (line ∷ lines) rest h k = cc k

-- bytes in which no line ends are the rest
pub rest_all : (x : List ℕ) → HasNoEnd x → (lines_of x).rest ≡ x
unfolding lines_of
rest_all [] h = refl
rest_all (b ∷ []) h = refl
rest_all (b ∷ c ∷ more) h =
    elim (is_end b c) as (λ t. (cond t (ended more) (extended b (c ∷ more))).whole ≡ [] → (cond t (ended more) (extended b (c ∷ more))).rest ≡ b ∷ c ∷ more) [
      | true ↦ λ h. cc h
      | false ↦ λ h. onto_rest b c more (lines_of (c ∷ more)).whole (lines_of (c ∷ more)).rest (rest_all (c ∷ more)) h
    ] h

joined_onto : (b : ℕ) (whole : List (List ℕ)) (rest : List ℕ)
    → joined (onto b whole rest).whole (onto b whole rest).rest ≡ b ∷ joined whole rest
unfolding joined
joined_onto b [] rest = refl
joined_onto b (line ∷ lines) rest = refl

ends_back : (b c : ℕ) → is_end b c ≡ true → (xs ys : List ℕ) → xs ≡ ys → 13 ∷ 10 ∷ xs ≡ b ∷ c ∷ ys
ends_back b c h xs ys e =
    let parts = and_parts (b == 13) (c == 10) h in
    let first = eqb-true b 13 parts.0 in
    let second = eqb-true c 10 parts.1 in
    cc

-- the lines are the bytes again
pub joined-lines_of : (x : List ℕ) → joined (lines_of x).whole (lines_of x).rest ≡ x
unfolding lines_of joined
joined-lines_of [] = refl
joined-lines_of (b ∷ []) = refl
joined-lines_of (b ∷ c ∷ more) =
    elim (is_end b c) as (λ t. is_end b c ≡ t → joined (cond t (ended more) (extended b (c ∷ more))).whole (cond t (ended more) (extended b (c ∷ more))).rest ≡ b ∷ c ∷ more) [
      | true ↦ λ h. ends_back b c h _ more (joined-lines_of more)
      | false ↦ λ h. joined_onto b (lines_of (c ∷ more)).whole (lines_of (c ∷ more)).rest ∙ ap (λ r. b ∷ r) (joined-lines_of (c ∷ more))
    ] refl

onto_append : (b c : ℕ) (more y : List ℕ) → is_end b c ≡ false → (whole : List (List ℕ)) (rest : List ℕ) → (whole ≡ [] → rest ≡ c ∷ more)
    → onto b (whole ++ (lines_of (rest ++ y)).whole) (lines_of (rest ++ y)).rest
    ≡ prepend (onto b whole rest).whole (lines_of ((onto b whole rest).rest ++ y))
onto_append b c more y h [] rest k = rw (k refl) (sym (lines_of-extended b c (more ++ y) h))
onto_append b c more y h (line ∷ lines) rest k = refl

-- more bytes go on behind the rest
pub lines_of-append : (x y : List ℕ) → lines_of (x ++ y) ≡ prepend (lines_of x).whole (lines_of ((lines_of x).rest ++ y))
unfolding lines_of
lines_of-append [] y = refl
lines_of-append (b ∷ []) y = refl
lines_of-append (b ∷ c ∷ more) y =
    elim (is_end b c) as (λ t. is_end b c ≡ t
    → cond t (ended (more ++ y)) (extended b (c ∷ more ++ y))
    ≡ prepend (cond t (ended more) (extended b (c ∷ more))).whole (lines_of ((cond t (ended more) (extended b (c ∷ more))).rest ++ y))) [
      | true ↦ λ h. ap (λ (l : Lines). record { whole = [] ∷ l.whole; rest = l.rest }) (lines_of-append more y)
      | false ↦ λ h.
          ap (λ (l : Lines). onto b l.whole l.rest) (lines_of-append (c ∷ more) y)
          ∙ onto_append b c more y h (lines_of (c ∷ more)).whole (lines_of (c ∷ more)).rest (rest_all (c ∷ more))
    ] refl

onto_no_end : (b c : ℕ) (more : List ℕ) → is_end b c ≡ false → (whole : List (List ℕ)) (rest : List ℕ) → (whole ≡ [] → rest ≡ c ∷ more)
    → (lines_of (c ∷ more)).whole ≡ whole → HasNoEnd rest → HasNoEnd (onto b whole rest).rest
onto_no_end b c more h [] rest k e n =
    let P : List ℕ → Type 0 = λ r. HasNoEnd (b ∷ r) in
    subst P (sym (k refl)) (ap (λ (l : Lines). l.whole) (lines_of-extended b c more h) ∙ ap (λ w. (onto b w (lines_of (c ∷ more)).rest).whole) e)
onto_no_end b c more h (line ∷ lines) rest k e n = n

-- no line ends in the rest
pub rest-no_end : (x : List ℕ) → HasNoEnd (lines_of x).rest
unfolding lines_of
rest-no_end [] = refl
rest-no_end (b ∷ []) = refl
rest-no_end (b ∷ c ∷ more) =
    elim (is_end b c) as (λ t. is_end b c ≡ t → HasNoEnd (cond t (ended more) (extended b (c ∷ more))).rest) [
      | true ↦ λ h. rest-no_end more
      | false ↦ λ h. onto_no_end b c more h (lines_of (c ∷ more)).whole (lines_of (c ∷ more)).rest (rest_all (c ∷ more)) refl (rest-no_end (c ∷ more))
    ] refl

whole_onto : (b : ℕ) (whole : List (List ℕ)) (rest : List ℕ) → (onto b whole rest).whole ≡ [] → whole ≡ []
whole_onto b [] rest h = refl
whole_onto b (line ∷ lines) rest h = cc h

-- where no line ends, none ends behind the first byte
no_end_tail : (b c : ℕ) (more : List ℕ) → HasNoEnd (b ∷ c ∷ more) → (is_end b c ≡ false) × HasNoEnd (c ∷ more)
unfolding lines_of
no_end_tail b c more h =
    elim (is_end b c) as (λ t. (cond t (ended more) (extended b (c ∷ more))).whole ≡ [] → (t ≡ false) × HasNoEnd (c ∷ more)) [
      | true ↦ λ k. (cc k, cc k)
      | false ↦ λ k. (refl, whole_onto b (lines_of (c ∷ more)).whole (lines_of (c ∷ more)).rest k)
    ] h

no_first : (first more : List (List ℕ)) → first ++ more ≡ [] → first ≡ []
no_first [] more h = refl
no_first (line ∷ lines) more h = cc h

-- where no line ends, none ends in the first part
pub no_end_front : (x y : List ℕ) → HasNoEnd (x ++ y) → HasNoEnd x
no_end_front x y h =
    no_first (lines_of x).whole (lines_of ((lines_of x).rest ++ y)).whole
    (sym (ap (λ (l : Lines). l.whole) (lines_of-append x y)) ∙ h)

-- a byte and a CR are no end of a line
not_end : (b : ℕ) → is_end b 13 ≡ false
not_end b = elim (b == 13) as (λ t. (t && (13 == 10)) ≡ false) [ true ↦ refl | false ↦ refl ]

-- a CR LF behind bytes in which no line ends makes them a whole line
pub lines_of-line : (x : List ℕ) → HasNoEnd x → lines_of (x ++ end_of_line) ≡ record { whole = x ∷ []; rest = [] }
unfolding lines_of
lines_of-line [] h = refl
lines_of-line (b ∷ []) h = lines_of-extended b 13 (10 ∷ []) (not_end b)
lines_of-line (b ∷ c ∷ more) h =
    let tail = no_end_tail b c more h in
    lines_of-extended b c (more ++ end_of_line) tail.0
    ∙ ap (λ (l : Lines). onto b l.whole l.rest) (lines_of-line (c ∷ more) tail.1)

-- the last byte is a CR
abbrev is_last_return : List ℕ → ℕ → Bool
is_last_return x b = ends_in_return x && b == 10

ends_in_return-cons : (b c : ℕ) (more : List ℕ) → ends_in_return (b ∷ c ∷ more) ≡ ends_in_return (c ∷ more)
unfolding ends_in_return
ends_in_return-cons b c more = refl

-- the last byte tells
pub ends_in_return-append : (x : List ℕ) (b : ℕ) → ends_in_return (x ++ b ∷ []) ≡ (b == 13)
unfolding ends_in_return
ends_in_return-append [] b = refl
ends_in_return-append (c ∷ []) b = refl
ends_in_return-append (c ∷ d ∷ more) b = ends_in_return-append (d ∷ more) b

-- one more byte, which ends no line
pub no_end-append : (x : List ℕ) (b : ℕ) → HasNoEnd x → is_last_return x b ≡ false → HasNoEnd (x ++ b ∷ [])
unfolding lines_of ends_in_return
no_end-append [] b h k = refl
no_end-append (c ∷ []) b h k = ap (λ (l : Lines). l.whole) (lines_of-extended c b [] k)
no_end-append (c ∷ d ∷ more) b h k =
    let tail = no_end_tail c d more h in
    ap (λ (l : Lines). l.whole) (lines_of-extended c d (more ++ b ∷ []) tail.0)
    ∙ ap (λ w. (onto c w (lines_of (d ∷ more ++ b ∷ [])).rest).whole) (no_end-append (d ∷ more) b tail.1 k)

-- what stands before the last CR
before_return : (x : List ℕ) → ends_in_return x ≡ true → (line : List ℕ) × (x ≡ line ++ 13 ∷ [])
unfolding ends_in_return
before_return [] h = cc h
before_return (b ∷ []) h = ([], ap (λ n. n ∷ []) (eqb-true b 13 h))
before_return (b ∷ c ∷ more) h =
    let before = before_return (c ∷ more) h in
    (b ∷ before.0, ap (λ r. b ∷ r) before.1)

-- an LF behind a CR ends a line
pub line_at_feed : (x : List ℕ) → HasNoEnd x → ends_in_return x ≡ true
    → lines_of (x ++ 10 ∷ []) ≡ record { whole = take (length x - 1) x ∷ []; rest = [] }
line_at_feed x h k =
    let before = before_return x k in
    let line : List ℕ = before.0 in
    let e : x ≡ line ++ 13 ∷ [] = before.1 in
    let P : List ℕ → Type 0 = λ w. HasNoEnd w in
    let none : HasNoEnd line = no_end_front line (13 ∷ []) (subst P e h) in
    let shorter : length x - 1 ≡ length line = omega (arith, ap length e, length-append line (13 ∷ [])) in
    let front : take (length x - 1) x ≡ line =
    ap (λ n. take n x) shorter ∙ ap (λ w. take (length line) w) e ∙ take-append_seam line (13 ∷ []) in
    ap (λ w. lines_of (w ++ 10 ∷ [])) e ∙ ap lines_of (append_assoc line (13 ∷ []) (10 ∷ [])) ∙ lines_of-line line none
    ∙ ap (λ w. record { whole = w ∷ []; rest = [] }) (sym front)

-- how far the first line reaches at least
abbrev pub reach : List (List ℕ) → List ℕ → ℕ
reach [] rest = length rest
reach (line ∷ lines) rest = length line + 1

reach_onto : (b : ℕ) (whole : List (List ℕ)) (rest : List ℕ) → reach (onto b whole rest).whole (onto b whole rest).rest ≡ reach whole rest + 1
reach_onto b [] rest = omega arith
reach_onto b (line ∷ lines) rest = omega arith

-- where no line ends, the first line goes on behind
pub reach-append : (x y : List ℕ) → HasNoEnd x → length x ≤ reach (lines_of (x ++ y)).whole (lines_of (x ++ y)).rest
unfolding lines_of
reach-append [] y h = omega arith
reach-append (b ∷ []) [] h = omega arith
reach-append (b ∷ []) (c ∷ y) h =
    elim (is_end b c) as (λ t. 1 ≤ reach (cond t (ended y) (extended b (c ∷ y))).whole (cond t (ended y) (extended b (c ∷ y))).rest) [
      | true ↦ omega arith
      | false ↦ omega (arith, reach_onto b (lines_of (c ∷ y)).whole (lines_of (c ∷ y)).rest)
    ]
reach-append (b ∷ c ∷ more) y h =
    let tail = no_end_tail b c more h in
    let further = reach-append (c ∷ more) y tail.1 in
    let l = lines_of-extended b c (more ++ y) tail.0 in
    rw l (omega (arith, further, reach_onto b (lines_of (c ∷ more ++ y)).whole (lines_of (c ∷ more ++ y)).rest))

-- the last byte by its index
pub ends_in_return-last : (x : List ℕ) → ends_in_return x ≡ (get_or x (length x - 1) 0 == 13)
unfolding ends_in_return
ends_in_return-last [] = refl
ends_in_return-last (b ∷ []) = refl
ends_in_return-last (b ∷ c ∷ more) =
    let place : length (b ∷ c ∷ more) - 1 ≡ suc (length (c ∷ more) - 1) = omega arith in
    ends_in_return-last (c ∷ more) ∙ ap (λ n. get_or (b ∷ c ∷ more) n 0 == 13) (sym place)

-- bytes that end in CR are some
pub ends_in_return-length : (x : List ℕ) → ends_in_return x ≡ true → 0 < length x
unfolding ends_in_return
ends_in_return-length [] h = cc h
ends_in_return-length (b ∷ x) h = omega arith

-- one byte more of a piece
seam : (held piece : List ℕ) (i : ℕ) → i < length piece
    → held ++ take (i + 1) piece ≡ (held ++ take i piece) ++ get_or piece i 0 ∷ []
seam held piece i h = ap (λ w. held ++ w) (take_more piece i 0 h) ∙ sym (append_assoc held (take i piece) (get_or piece i 0 ∷ []))

-- the byte ends no line
pub no_end_more : (held piece : List ℕ) (i : ℕ) → i < length piece → HasNoEnd (held ++ take i piece)
    → (ends_in_return (held ++ take i piece) && get_or piece i 0 == 10) ≡ false
    → HasNoEnd (held ++ take (i + 1) piece) × ((get_or piece i 0 == 13) ≡ ends_in_return (held ++ take (i + 1) piece))
no_end_more held piece i h none k =
    let e = seam held piece i h in
    let P : List ℕ → Type 0 = λ w. HasNoEnd w in (
      subst P (sym e) (no_end-append (held ++ take i piece) (get_or piece i 0) none k),
      sym (ends_in_return-append (held ++ take i piece) (get_or piece i 0)) ∙ ap ends_in_return (sym e),
    )

-- the byte ends a line
pub line_here : (held piece : List ℕ) (i : ℕ) → i < length piece → HasNoEnd (held ++ take i piece)
    → ends_in_return (held ++ take i piece) ≡ true → get_or piece i 0 ≡ 10
    → lines_of (held ++ take (i + 1) piece)
    ≡ record { whole = take (length held + (i + 1) - 2) (held ++ take (i + 1) piece) ∷ []; rest = [] }
line_here held piece i h none returned feed =
    let x : List ℕ = held ++ take i piece in
    let e : held ++ take (i + 1) piece ≡ x ++ 10 ∷ [] = seam held piece i h ∙ ap (λ b. x ++ b ∷ []) feed in
    let size : length x ≡ length held + i = omega (arith, length-append held (take i piece), length-take i piece) in
    let place : length held + (i + 1) - 2 ≡ length x - 1 = omega arith in
    let within : length x - 1 ≤ length x = omega arith in
    let front : take (length held + (i + 1) - 2) (held ++ take (i + 1) piece) ≡ take (length x - 1) x =
    ap (λ n. take n (held ++ take (i + 1) piece)) place ∙ ap (λ w. take (length x - 1) w) e ∙ take-append-le (length x - 1) x (10 ∷ []) within in
    ap lines_of e ∙ line_at_feed x none returned ∙ ap (λ w. record { whole = w ∷ []; rest = [] }) (sym front)

pub not_left : (a b : Bool) → a ≡ false → (a && b) ≡ false
not_left a b h = ap (λ t. t && b) h

pub not_right : (a : Bool) (n m : ℕ) → (n ≡ m → ⊥) → (a && n == m) ≡ false
not_right true n m h = grind (arith, h)
not_right false n m h = refl

pub ends_in_return-none : (x : List ℕ) → (length x == 0) ≡ true → ends_in_return x ≡ false
unfolding ends_in_return
ends_in_return-none [] h = refl
ends_in_return-none (b ∷ x) h = absurd (omega (arith, eqb-true (length (b ∷ x)) 0 h))
