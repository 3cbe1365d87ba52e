-- What an end makes of bytes does not depend on how they were cut.
use Rattle.std.proofs.Common.{◌≡◌, ℕ, ◌+◌, ◌≤◌, ◌==◌, true, false, cond, nat_lt, List, [], ◌∷◌, ◌++◌, length, refl, sym, ◌∙◌, ap, arith, append_assoc, append-nil}
use Rattle.std.specs.Prelude.{option_to_list}
use Rattle.atspi_auth.specs.Lines.{Lines, end_of_line, lines_of, HasNoEnd, joined}
use Rattle.atspi_auth.specs.Replies.{answer, reply_to}
use Rattle.atspi_auth.specs.Talk.{Heard, silent, say, ends, goes_on, hears, hears_bytes, heard}
use Rattle.atspi_auth.specs.declared.fault.AuthFault.TheVariants.{NoZero, TooLong}
use Rattle.atspi_auth.specs.declared.said.AuthLine.{AuthLine}
use Rattle.atspi_auth.specs.declared.reply.Waiting.{Waiting}
use Rattle.atspi_auth.specs.declared.reply.Waiting.TheVariants.{ForAuth}
use Rattle.atspi_auth.specs.declared.reply.Reply.TheVariants.{Say, End, Fail}
use Rattle.atspi_auth.specs.declared.stage.Stage.{Stage}
use Rattle.atspi_auth.specs.declared.stage.Stage.TheVariants.{Zero, Waits, Over, Failed}
use Rattle.atspi_auth.proofs.LinesLemmas.{joined-lines_of, lines_of-append, reach, reach-append, rest-no_end}

-- what was heard, and then more bytes
abbrev pub then_heard : Heard → List ℕ → Heard
then_heard h y =
    let more = heard h.stage h.line y in
    record { said = h.said ++ more.said; stage = more.stage; line = more.line; behind = h.behind ++ more.behind }

joined-append : (first more : List (List ℕ)) (rest : List ℕ) → joined (first ++ more) rest ≡ joined first (joined more rest)
unfolding joined
joined-append [] more rest = refl
joined-append (line ∷ lines) more rest = ap (λ r. line ++ (end_of_line ++ r)) (joined-append lines more rest)

joined_behind : (lines : List (List ℕ)) (rest y : List ℕ) → joined lines rest ++ y ≡ joined lines (rest ++ y)
unfolding joined
joined_behind [] rest y = refl
joined_behind (line ∷ lines) rest y =
    append_assoc line (end_of_line ++ joined lines rest) y
    ∙ ap (λ r. line ++ (end_of_line ++ r)) (joined_behind lines rest y)

-- the bytes behind some lines, with more bytes
joined_more : (lines : List (List ℕ)) (rest y : List ℕ)
    → joined (lines ++ (lines_of (rest ++ y)).whole) (lines_of (rest ++ y)).rest ≡ joined lines rest ++ y
joined_more lines rest y =
    joined-append lines (lines_of (rest ++ y)).whole (lines_of (rest ++ y)).rest
    ∙ ap (λ r. joined lines r) (joined-lines_of (rest ++ y)) ∙ sym (joined_behind lines rest y)

not_below : (n : ℕ) → 16384 ≤ n → nat_lt n 16384 ≡ false
not_below n h = grind arith

above : (n : ℕ) → 16384 ≤ n + 1 → nat_lt 16384 (n + 2) ≡ true
above n h = grind arith

-- a first line that reaches to the limit is refused
by_reach : (waiting : Waiting) (whole : List (List ℕ)) (rest : List ℕ) → 16384 ≤ reach whole rest
    → hears waiting whole rest ≡ silent (Failed TooLong) []
unfolding hears answer
by_reach waiting [] rest h = ap (λ t. cond t (silent (Waits waiting) rest) (silent (Failed TooLong) [])) (not_below (length rest) h)
by_reach waiting (line ∷ lines) rest h =
    ap (λ t. goes_on (cond t (Fail TooLong) (reply_to waiting line)) (λ next. hears next lines rest) (joined lines rest)) (above (length line) h)

-- a line that is too long is refused before it is whole
too_long : (waiting : Waiting) (rest y : List ℕ) → HasNoEnd rest → 16384 ≤ length rest
    → hears waiting (lines_of (rest ++ y)).whole (lines_of (rest ++ y)).rest ≡ silent (Failed TooLong) []
too_long waiting rest y h long =
    by_reach waiting (lines_of (rest ++ y)).whole (lines_of (rest ++ y)).rest (omega (arith, reach-append rest y h))

cut_ends : (said : List AuthLine) (bytes more y : List ℕ) → more ≡ bytes ++ y → ends said more ≡ then_heard (ends said bytes) y
unfolding heard
cut_ends said bytes more y e =
    ap (λ b. ends said b) e ∙ ap (λ (s : List AuthLine). ends s (bytes ++ y)) (sym (append-nil said))

-- more bytes behind lines and a rest
cut_lines : (waiting : Waiting) (lines : List (List ℕ)) (rest y : List ℕ) → HasNoEnd rest
    → hears waiting (lines ++ (lines_of (rest ++ y)).whole) (lines_of (rest ++ y)).rest ≡ then_heard (hears waiting lines rest) y
unfolding hears heard hears_bytes
cut_lines waiting [] rest y h =
    elim (nat_lt (length rest) 16384) as (λ t. nat_lt (length rest) 16384 ≡ t
    → hears waiting (lines_of (rest ++ y)).whole (lines_of (rest ++ y)).rest
    ≡ then_heard (cond t (silent (Waits waiting) rest) (silent (Failed TooLong) [])) y) [
      | true ↦ λ e. refl
      | false ↦ λ e. too_long waiting rest y h (grind (arith, e))
    ] refl
cut_lines waiting (line ∷ lines) rest y h =
    elim (answer waiting line) as (λ reply.
    goes_on reply (λ next. hears next (lines ++ (lines_of (rest ++ y)).whole) (lines_of (rest ++ y)).rest)
    (joined (lines ++ (lines_of (rest ++ y)).whole) (lines_of (rest ++ y)).rest)
    ≡ then_heard (goes_on reply (λ next. hears next lines rest) (joined lines rest)) y) [
      | Say said next ↦ ap (λ (h : Heard). say (said ∷ []) h) (cut_lines next lines rest y h)
      | End said ↦ cut_ends (option_to_list said) (joined lines rest) _ y (joined_more lines rest y)
      | Fail fault ↦ refl
    ]

cut_bytes : (waiting : Waiting) (x y : List ℕ) → hears_bytes waiting (x ++ y) ≡ then_heard (hears_bytes waiting x) y
unfolding hears_bytes
cut_bytes waiting x y =
    ap (λ (l : Lines). hears waiting l.whole l.rest) (lines_of-append x y)
    ∙ cut_lines waiting (lines_of x).whole (lines_of x).rest y (rest-no_end x)

any_line : (line b : List ℕ) → heard Zero line b ≡ heard Zero [] b
unfolding heard
any_line line [] = refl
any_line line (x ∷ b) = refl

-- bytes that come in two parts bring what they bring at once
pub cut : (stage : Stage) (line a b : List ℕ) → heard stage line (a ++ b) ≡ then_heard (heard stage line a) b
unfolding heard
cut Zero line [] b = any_line line b
cut Zero line (x ∷ a) b =
    elim (x == 0) as (λ t. cond t (hears_bytes ForAuth (a ++ b)) (silent (Failed NoZero) [])
    ≡ then_heard (cond t (hears_bytes ForAuth a) (silent (Failed NoZero) [])) b) [
      | true ↦ cut_bytes ForAuth a b
      | false ↦ refl
    ]
cut (Waits waiting) line a b = ap (λ x. hears_bytes waiting x) (sym (append_assoc line a b)) ∙ cut_bytes waiting (line ++ a) b
cut Over line a b = cut_ends [] (line ++ a) (line ++ (a ++ b)) b (sym (append_assoc line a b))
cut (Failed fault) line a b = refl
