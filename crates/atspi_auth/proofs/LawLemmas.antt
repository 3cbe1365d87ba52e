-- The laws of the conversation.
use Rattle.std.proofs.Common.{◌≡◌, ℕ, ◌<◌, ◌==◌, true, false, cond, nat_lt, List, [], ◌∷◌, ◌++◌, length, refl, sym, ◌∙◌, ap, subst, arith, append_assoc, append-nil}
use Rattle.std.specs.Prelude.{◌↔◌, None, fold, flat_map}
use Rattle.std.specs.List.{AllByRecursion}
use Rattle.atspi_auth.specs.Lines.{Lines, HasNoEnd, end_of_line, joined, lines_of, onto}
use Rattle.atspi_auth.specs.Replies.{answer}
use Rattle.atspi_auth.specs.Talk.{Heard, Standing, Stands, after, behind, client_start, ends, fault_in, goes_on, heard, hears, hears_bytes, server_start, silent, told}
use Rattle.atspi_auth.specs.declared.fault.AuthFault.{AuthFault}
use Rattle.atspi_auth.specs.declared.fault.AuthFault.TheVariants.{NoZero, TooLong}
use Rattle.atspi_auth.specs.declared.reply.Waiting.{Waiting}
use Rattle.atspi_auth.specs.declared.reply.Waiting.TheVariants.{ForAuth}
use Rattle.atspi_auth.specs.declared.reply.Reply.{Reply}
use Rattle.atspi_auth.specs.declared.reply.Reply.TheVariants.{Say, End, Fail}
use Rattle.atspi_auth.specs.declared.stage.Stage.{Stage}
use Rattle.atspi_auth.specs.declared.stage.Stage.TheVariants.{Zero, Waits, Over, Failed}
use Rattle.atspi_auth.proofs.LinesLemmas.{ended, extended, is_end, joined-lines_of, lines_of-append, lines_of-extended, lines_of-line, no_end_front, prepend, rest_all}
use Rattle.atspi_auth.proofs.WholeLemmas.{after-append}

-- pieces one after another
fold-after : (now : Standing) (first : List ℕ) (pieces : List (List ℕ))
    → fold after (after now first) pieces ≡ after now (first ++ flat_map (λ p. p) pieces)
fold-after now first [] = ap (λ b. after now b) (sym (append-nil first))
fold-after now first (piece ∷ pieces) =
    ap (λ (n : Standing). fold after n pieces) (after-append now first piece) ∙ fold-after now (first ++ piece) pieces
    ∙ ap (λ b. after now b) (append_assoc first piece (flat_map (λ p. p) pieces))

from_start : (start : Standing) (pieces : List (List ℕ)) → after start [] ≡ start
    → fold after start pieces ≡ after start (flat_map (λ p. p) pieces)
from_start start pieces e = ap (λ (n : Standing). fold after n pieces) (sym e) ∙ fold-after start [] pieces

pub server_stands : Stands server_start [] [] server_start
unfolding heard
server_stands = refl

pub client_stands : Stands client_start [] [] client_start
unfolding heard hears hears_bytes lines_of
client_stands = refl

pub server_pieces : (pieces : List (List ℕ)) → fold after server_start pieces ≡ after server_start (flat_map (λ p. p) pieces)
unfolding heard
server_pieces pieces = from_start server_start pieces refl

pub client_pieces : (pieces : List (List ℕ)) → fold after client_start pieces ≡ after client_start (flat_map (λ p. p) pieces)
unfolding heard hears hears_bytes lines_of
client_pieces pieces = from_start client_start pieces refl

pub fault_stays : (now : Standing) (bytes : List ℕ) (fault : AuthFault) → now.stage ≡ Failed fault
    → (after now bytes).stage ≡ Failed fault × ((told now bytes).said ≡ [])
unfolding heard
fault_stays now bytes fault e =
    let h : told now bytes ≡ silent (Failed fault) [] = ap (λ t. heard t now.line bytes) e in
    (ap (λ (h : Heard). h.stage) h, ap (λ (h : Heard). h.said) h)

pub over_stays : (now : Standing) (bytes : List ℕ) → now.stage ≡ Over → now.line ≡ []
    → (after now bytes).stage ≡ Over × ((told now bytes).said ≡ []) × (behind now bytes ≡ bytes)
unfolding heard
over_stays now bytes e l =
    let h : told now bytes ≡ ends [] bytes = ap (λ t. heard t now.line bytes) e ∙ ap (λ w. ends [] (w ++ bytes)) l in
    (ap (λ (h : Heard). h.stage) h, ap (λ (h : Heard). h.said) h, ap (λ (h : Heard). h.behind) h)

short_goes_on : (reply : Reply) (later : Waiting → Heard) (behind : List ℕ) → ((next : Waiting) → length (later next).line < 16384)
    → length (goes_on reply later behind).line < 16384
short_goes_on (Say line next) later behind k = k next
short_goes_on (End line) later behind k = omega arith
short_goes_on (Fail fault) later behind k = omega arith

short_hears : (waiting : Waiting) (lines : List (List ℕ)) (rest : List ℕ) → length (hears waiting lines rest).line < 16384
unfolding hears
short_hears waiting [] rest =
    elim (nat_lt (length rest) 16384) as (λ t. nat_lt (length rest) 16384 ≡ t → length (cond t (silent (Waits waiting) rest) (silent (Failed TooLong) [])).line < 16384) [
      | true ↦ λ e. grind (arith, e)
      | false ↦ λ e. omega arith
    ] refl
short_hears waiting (line ∷ lines) rest =
    short_goes_on (answer waiting line) (λ next. hears next lines rest) (joined lines rest) (λ next. short_hears next lines rest)

short_heard : (stage : Stage) (line bytes : List ℕ) → length (heard stage line bytes).line < 16384
unfolding heard hears_bytes
short_heard Zero line [] = omega arith
short_heard Zero line (b ∷ bytes) =
    elim (b == 0) as (λ t. length (cond t (hears_bytes ForAuth bytes) (silent (Failed NoZero) [])).line < 16384) [
      | true ↦ short_hears ForAuth (lines_of bytes).whole (lines_of bytes).rest
      | false ↦ omega arith
    ]
short_heard (Waits waiting) line bytes = short_hears waiting (lines_of (line ++ bytes)).whole (lines_of (line ++ bytes)).rest
short_heard Over line bytes = omega arith
short_heard (Failed fault) line bytes = omega arith

pub short_after : (now : Standing) (bytes : List ℕ) → length (after now bytes).line < 16384
short_after now bytes = short_heard now.stage now.line bytes

bare_goes_on : (reply : Reply) (later : Waiting → Heard) (behind : List ℕ) → ((next : Waiting) → ((later next).stage ≡ Over → ⊥) → (later next).behind ≡ [])
    → ((goes_on reply later behind).stage ≡ Over → ⊥) → (goes_on reply later behind).behind ≡ []
bare_goes_on (Say line next) later behind k h = k next h
bare_goes_on (End line) later behind k h = absurd (h refl)
bare_goes_on (Fail fault) later behind k h = refl

bare_hears : (waiting : Waiting) (lines : List (List ℕ)) (rest : List ℕ) → ((hears waiting lines rest).stage ≡ Over → ⊥) → (hears waiting lines rest).behind ≡ []
unfolding hears
bare_hears waiting [] rest h =
    elim (nat_lt (length rest) 16384) as (λ t. (cond t (silent (Waits waiting) rest) (silent (Failed TooLong) [])).behind ≡ []) [
      | true ↦ refl
      | false ↦ refl
    ]
bare_hears waiting (line ∷ lines) rest h =
    bare_goes_on (answer waiting line) (λ next. hears next lines rest) (joined lines rest) (λ next. bare_hears next lines rest) h

bare_heard : (stage : Stage) (line bytes : List ℕ) → ((heard stage line bytes).stage ≡ Over → ⊥) → (heard stage line bytes).behind ≡ []
unfolding heard hears_bytes
bare_heard Zero line [] h = refl
bare_heard Zero line (b ∷ bytes) h =
    elim (b == 0) as (λ t. ((cond t (hears_bytes ForAuth bytes) (silent (Failed NoZero) [])).stage ≡ Over → ⊥) → (cond t (hears_bytes ForAuth bytes) (silent (Failed NoZero) [])).behind ≡ []) [
      | true ↦ bare_hears ForAuth (lines_of bytes).whole (lines_of bytes).rest
      | false ↦ λ k. refl
    ] h
bare_heard (Waits waiting) line bytes h = bare_hears waiting (lines_of (line ++ bytes)).whole (lines_of (line ++ bytes)).rest h
bare_heard Over line bytes h = absurd (h refl)
bare_heard (Failed fault) line bytes h = refl

pub behind_no_end : (now : Standing) (bytes : List ℕ) → ((after now bytes).stage ≡ Over → ⊥) → behind now bytes ≡ []
behind_no_end now bytes h = bare_heard now.stage now.line bytes h

pub behind_fault : (now : Standing) (bytes : List ℕ) → (fault_in (after now bytes).stage ≡ None → ⊥) → behind now bytes ≡ []
behind_fault now bytes h = behind_no_end now bytes (λ e. h (ap fault_in e))

-- a line and what follows
lines_of-more : (line more : List ℕ) → HasNoEnd line
    → lines_of (line ++ (end_of_line ++ more)) ≡ record { whole = line ∷ (lines_of more).whole; rest = (lines_of more).rest }
lines_of-more line more h =
    ap lines_of (sym (append_assoc line end_of_line more)) ∙ lines_of-append (line ++ end_of_line) more
    ∙ ap (λ (l : Lines). prepend l.whole (lines_of (l.rest ++ more))) (lines_of-line line h)

pub lines_of-joined : (lines : List (List ℕ)) (rest : List ℕ) → AllByRecursion HasNoEnd lines → HasNoEnd rest
    → lines_of (joined lines rest) ≡ record { whole = lines; rest = rest }
unfolding joined
lines_of-joined [] rest h k =
    ap (λ w. record { whole = w; rest = (lines_of rest).rest }) k ∙ ap (λ r. record { whole = []; rest = r }) (rest_all rest k)
lines_of-joined (line ∷ lines) rest h k =
    lines_of-more line (joined lines rest) h.0
    ∙ ap (λ (l : Lines). record { whole = line ∷ l.whole; rest = l.rest }) (lines_of-joined lines rest h.1 k)

-- no line ends in a first line with one more byte in front
cons_no_end : (b c : ℕ) (more : List ℕ) → is_end b c ≡ false → (line back : List ℕ) → line ++ (end_of_line ++ back) ≡ c ∷ more
    → HasNoEnd line → HasNoEnd (b ∷ line)
unfolding lines_of
cons_no_end b c more h [] back e k = refl
cons_no_end b c more h (d ∷ line) back e k =
    let first : d ≡ c = cc in
    ap (λ (l : Lines). l.whole) (lines_of-extended b d line (ap (λ n. is_end b n) first ∙ h))
    ∙ ap (λ w. (onto b w (lines_of (d ∷ line)).rest).whole) k

whole_onto : (b c : ℕ) (more : List ℕ) → is_end b c ≡ false → (whole : List (List ℕ)) (rest : List ℕ) → joined whole rest ≡ c ∷ more
    → AllByRecursion HasNoEnd whole → AllByRecursion HasNoEnd (onto b whole rest).whole
unfolding joined
whole_onto b c more e [] rest j h = tt
whole_onto b c more e (line ∷ lines) rest j h = (cons_no_end b c more e line (joined lines rest) j h.0, h.1)

-- no line ends within a whole line
pub whole-no_end : (x : List ℕ) → AllByRecursion HasNoEnd (lines_of x).whole
unfolding lines_of
whole-no_end [] = tt
whole-no_end (b ∷ []) = tt
whole-no_end (b ∷ c ∷ more) =
    elim (is_end b c) as (λ t. is_end b c ≡ t → AllByRecursion HasNoEnd (cond t (ended more) (extended b (c ∷ more))).whole) [
      | true ↦ λ h. (refl, whole-no_end more)
      | false ↦ λ h. whole_onto b c more h (lines_of (c ∷ more)).whole (lines_of (c ∷ more)).rest (joined-lines_of (c ∷ more)) (whole-no_end (c ∷ more))
    ] refl

-- a CR LF ends a line
ends_somewhere : (front back : List ℕ) → HasNoEnd (front ++ (end_of_line ++ back)) → ⊥
ends_somewhere front back h =
    let none : HasNoEnd front = no_end_front front (end_of_line ++ back) h in
    cc (sym (ap (λ (l : Lines). l.whole) (lines_of-more front back none)) ∙ h)

by_lines : (bytes : List ℕ) (whole : List (List ℕ)) (rest : List ℕ) → joined whole rest ≡ bytes
    → ((front back : List ℕ) → bytes ≡ front ++ (end_of_line ++ back) → ⊥) → whole ≡ []
unfolding joined
by_lines bytes [] rest e n = refl
by_lines bytes (line ∷ lines) rest e n = absurd (n line (joined lines rest) (sym e))

pub no_end_plain : (bytes : List ℕ) → HasNoEnd bytes ↔ ((front back : List ℕ) → bytes ≡ front ++ (end_of_line ++ back) → ⊥)
no_end_plain bytes = (
  λ h front back e. let P : List ℕ → Type 0 = λ w. HasNoEnd w in ends_somewhere front back (subst P e h),
  λ n. by_lines bytes (lines_of bytes).whole (lines_of bytes).rest (joined-lines_of bytes) n,
)
