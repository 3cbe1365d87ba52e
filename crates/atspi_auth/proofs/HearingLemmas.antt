-- What is heard, line by line.
use Rattle.std.proofs.Common.{◌≡◌, ℕ, ◌+◌, ◌-◌, ◌≤◌, true, false, cond, nat_lt, List, [], ◌∷◌, ◌++◌, length, take, drop, refl, sym, ◌∙◌, ap, subst, arith, append_assoc, append-nil}
use Rattle.std.proofs.Math.Seq.{take-length}
use Rattle.std.proofs.lemmas.List.{take-append-drop, take-take, length-drop}
use Rattle.atspi_auth.specs.Lines.{Lines, lines_of, HasNoEnd}
use Rattle.atspi_auth.specs.Replies.{answer}
use Rattle.atspi_auth.specs.Talk.{Heard, silent, say, goes_on, hears, hears_bytes, left_at}
use Rattle.atspi_auth.specs.declared.fault.AuthFault.TheVariants.{TooLong}
use Rattle.atspi_auth.specs.declared.said.AuthLine.{AuthLine}
use Rattle.atspi_auth.specs.declared.reply.Waiting.{Waiting}
use Rattle.atspi_auth.specs.declared.reply.Reply.{Reply}
use Rattle.atspi_auth.specs.declared.reply.Reply.TheVariants.{Say}
use Rattle.atspi_auth.specs.declared.stage.Stage.{Stage}
use Rattle.atspi_auth.specs.declared.stage.Stage.TheVariants.{Zero, Waits, Over, Failed}
use Rattle.atspi_auth.proofs.LinesLemmas.{joined-lines_of, lines_of-append, prepend, rest_all}

pub no_end-nil : HasNoEnd []
unfolding lines_of
no_end-nil = refl

-- where an end stands that waits with so many bytes of a line
abbrev pub standing : Waiting → ℕ → Stage
standing waiting n = cond (nat_lt n 16384) (Waits waiting) (Failed TooLong)

-- bytes in which no line ends
pub hears-unfinished : (waiting : Waiting) (s : List ℕ) → HasNoEnd s → hears_bytes waiting s ≡ left_at [] (standing waiting (length s)) s
unfolding hears_bytes hears
hears-unfinished waiting s h =
    ap (λ w. hears waiting w (lines_of s).rest) h ∙ ap (λ r. hears waiting [] r) (rest_all s h)
    ∙ (elim (nat_lt (length s) 16384) as (λ t. cond t (silent (Waits waiting) s) (silent (Failed TooLong) []) ≡ left_at [] (cond t (Waits waiting) (Failed TooLong)) s) [
      | true ↦ refl
      | false ↦ refl
    ])

-- bytes that begin with the end of a line
pub hears-line : (waiting : Waiting) (held s line : List ℕ) (n : ℕ) → lines_of (held ++ take n s) ≡ record { whole = line ∷ []; rest = [] }
    → hears_bytes waiting (held ++ s) ≡ goes_on (answer waiting line) (λ next. hears_bytes next (drop n s)) (drop n s)
unfolding hears_bytes hears
hears-line waiting held s line n h =
    let whole : held ++ s ≡ (held ++ take n s) ++ drop n s =
    ap (λ w. held ++ w) (sym (take-append-drop n s)) ∙ sym (append_assoc held (take n s) (drop n s)) in
    let lines : lines_of (held ++ s) ≡ prepend (line ∷ []) (lines_of (drop n s)) =
    ap lines_of whole ∙ lines_of-append (held ++ take n s) (drop n s) ∙ ap (λ (l : Lines). prepend l.whole (lines_of (l.rest ++ drop n s))) h in
    ap (λ (l : Lines). hears waiting l.whole l.rest) lines
    ∙ ap (λ b. goes_on (answer waiting line) (λ next. hears_bytes next (drop n s)) b) (joined-lines_of (drop n s))

say_say : (said : List AuthLine) (line : AuthLine) (h : Heard) → say said (say (line ∷ []) h) ≡ say (said ++ line ∷ []) h
say_say said line h = ap (λ (s : List AuthLine). record { said = s; stage = h.stage; line = h.line; behind = h.behind }) (sym (append_assoc said (line ∷ []) h.said))

say-left_at : (said : List AuthLine) (stage : Stage) (left : List ℕ) → say said (left_at [] stage left) ≡ left_at said stage left
say-left_at said Zero left = ap (λ (s : List AuthLine). left_at s Zero left) (append-nil said)
say-left_at said (Waits waiting) left = ap (λ (s : List AuthLine). left_at s (Waits waiting) left) (append-nil said)
say-left_at said Over left = ap (λ (s : List AuthLine). left_at s Over left) (append-nil said)
say-left_at said (Failed fault) left = ap (λ (s : List AuthLine). left_at s (Failed fault) left) (append-nil said)

-- after a reply the end waits, and no further line ends
pub stops : (h : Heard) (said pushed : List AuthLine) (reply : Reply) (line : AuthLine) (waiting : Waiting) (stage : Stage) (s rest : List ℕ)
    → h ≡ say said (goes_on reply (λ next. hears_bytes next s) s) → reply ≡ Say line waiting → pushed ≡ said ++ line ∷ []
    → rest ≡ s → HasNoEnd rest → stage ≡ standing waiting (length rest) → h ≡ left_at pushed stage s
stops h said pushed reply line waiting stage s rest e r p same none k =
    let P : List ℕ → Type 0 = λ w. HasNoEnd w in
    e ∙ ap (λ (r : Reply). say said (goes_on r (λ next. hears_bytes next s) s)) r
    ∙ say_say said line (hears_bytes waiting s)
    ∙ ap (λ (h : Heard). say (said ++ line ∷ []) h) (hears-unfinished waiting s (subst P same none))
    ∙ say-left_at (said ++ line ∷ []) (standing waiting (length s)) s
    ∙ ap (λ (q : List AuthLine). left_at q (standing waiting (length s)) s) (sym p)
    ∙ ap (λ (t : Stage). left_at pushed t s) (ap (λ (w : List ℕ). standing waiting (length w)) (sym same) ∙ sym k)

text_same : (n : ℕ) (rest : List ℕ) → 2 ≤ n → take (0 + n - 2) (take n rest) ≡ take (n - 2) rest
text_same n rest h =
    let place : 0 + n - 2 ≡ n - 2 = omega arith in
    ap (λ k. take k (take n rest)) place ∙ take-take (n - 2) n rest (omega arith)

-- after a reply the next line is answered
pub steps : (h : Heard) (said pushed : List AuthLine) (reply next : Reply) (line : AuthLine) (waiting : Waiting) (s rest later : List ℕ) (n : ℕ)
    → h ≡ say said (goes_on reply (λ next. hears_bytes next s) s) → reply ≡ Say line waiting → pushed ≡ said ++ line ∷ []
    → rest ≡ s → 2 ≤ 0 + n → lines_of (take n rest) ≡ record { whole = take (0 + n - 2) (take n rest) ∷ []; rest = [] }
    → next ≡ answer waiting (take (n - 2) rest) → drop n s ≡ later
    → h ≡ say pushed (goes_on next (λ next. hears_bytes next later) later)
steps h said pushed reply next line waiting s rest later n e r p same two l a k =
    let text : List ℕ = take (n - 2) rest in
    let lines : lines_of (take n s) ≡ record { whole = text ∷ []; rest = [] } =
    ap (λ w. lines_of (take n w)) (sym same) ∙ l ∙ ap (λ w. record { whole = w ∷ []; rest = [] }) (text_same n rest (omega arith)) in
    e ∙ ap (λ (r : Reply). say said (goes_on r (λ next. hears_bytes next s) s)) r
    ∙ say_say said line (hears_bytes waiting s)
    ∙ ap (λ (q : List AuthLine). say q (hears_bytes waiting s)) (sym p)
    ∙ ap (λ (h : Heard). say pushed h) (hears-line waiting [] s text n lines)
    ∙ ap (λ (r : Reply). say pushed (goes_on r (λ next. hears_bytes next (drop n s)) (drop n s))) (sym a)
    ∙ ap (λ b. say pushed (goes_on next (λ next. hears_bytes next b) b)) k

-- what is left behind a place
pub tail : (k : ℕ) (s : List ℕ) → take (length s - k) (drop k s) ≡ drop k s
tail k s = ap (λ n. take n (drop k s)) (sym (length-drop k s)) ∙ take-length (drop k s)

-- a place in what is left is a place in the whole
pub within : (k n : ℕ) (s : List ℕ) → k ≤ length s → n ≤ length (take (length s - k) (drop k s)) → k + n ≤ length s
within k n s h l = omega (arith, ap length (tail k s), length-drop k s)
