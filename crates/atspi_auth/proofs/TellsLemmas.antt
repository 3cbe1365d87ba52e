-- What feeding answers and leaves, step by step.
use Rattle.std.proofs.Common.{◌≡◌, ℕ, ◌+◌, ◌-◌, ◌<◌, ◌≤◌, ◌==◌, Bool, true, false, cond, nat_lt, List, [], ◌∷◌, ◌++◌, length, take, drop, get_or, bytes_eq, codes, Some, Result, Ok, refl, sym, ◌∙◌, ap, subst, arith, append-nil, length-append}
use Rattle.std.proofs.lemmas.List.{drop-drop, length-take, length-drop}
use Rattle.std.proofs.lemmas.Bool.{eqb-true}
use Rattle.std.proofs.Math.Seq.{drop-length}
use Rattle.atspi_auth.specs.Lines.{lines_of, HasNoEnd, joined}
use Rattle.atspi_auth.specs.Requests.{request_of, is_grant}
use Rattle.atspi_auth.specs.Replies.{answer, reply_to, server_reply}
use Rattle.atspi_auth.specs.Talk.{Heard, Standing, IsTidy, Refuses, Tells, enter, fault_in, silent, ends, goes_on, heard, hears, hears_bytes, left_at}
use Rattle.atspi_auth.specs.declared.fault.AuthFault.{AuthFault}
use Rattle.atspi_auth.specs.declared.fault.AuthFault.TheVariants.{NoZero, TooLong, Early, Rejected as NotAwaited, NoMemory}
use Rattle.atspi_auth.specs.declared.said.AuthLine.{AuthLine}
use Rattle.atspi_auth.specs.declared.said.AuthLine.TheVariants.{Data, Begin}
use Rattle.atspi_auth.specs.declared.request.Request.{Request}
use Rattle.atspi_auth.specs.declared.request.Request.TheVariants.{Login, Ask, OtherAuth, Uid, OtherData, Cancel, Begin as AsksBegin, Error as SaysError}
use Rattle.atspi_auth.specs.declared.reply.Waiting.{Waiting}
use Rattle.atspi_auth.specs.declared.reply.Waiting.TheVariants.{ForAuth, ForData, ForBegin, ForChallenge, ForOk}
use Rattle.atspi_auth.specs.declared.reply.Reply.{Reply}
use Rattle.atspi_auth.specs.declared.reply.Reply.TheVariants.{Say, End, Fail}
use Rattle.atspi_auth.specs.declared.stage.Stage.{Stage}
use Rattle.atspi_auth.specs.declared.stage.Stage.TheVariants.{Zero, Waits, Over, Failed}
use Rattle.atspi_auth.proofs.LinesLemmas.{rest-no_end}
use Rattle.atspi_auth.proofs.HearingLemmas.{hears-line, hears-unfinished, no_end-nil}

-- ---- no reply is want of memory

abbrev IsLasting : Reply → Type 0
IsLasting (Fail NoMemory) = ⊥
IsLasting reply = Unit {0}

lasting_server : (waiting : Waiting) (request : Request) → IsLasting (server_reply waiting request)
unfolding server_reply
lasting_server ForAuth Login = tt
lasting_server ForAuth Ask = tt
lasting_server ForAuth OtherAuth = tt
lasting_server ForData Uid = tt
lasting_server ForData OtherData = tt
lasting_server ForData Cancel = tt
lasting_server ForBegin AsksBegin = tt
lasting_server ForBegin Cancel = tt
lasting_server waiting SaysError = tt
lasting_server waiting AsksBegin = tt
lasting_server waiting request = tt

lasting_either : (t : Bool) (a b : Reply) → IsLasting a → IsLasting b → IsLasting (cond t a b)
lasting_either true a b h k = h
lasting_either false a b h k = k

lasting_reply : (waiting : Waiting) (line : List ℕ) → IsLasting (reply_to waiting line)
unfolding reply_to
lasting_reply ForAuth line = lasting_server ForAuth (request_of line)
lasting_reply ForData line = lasting_server ForData (request_of line)
lasting_reply ForBegin line = lasting_server ForBegin (request_of line)
lasting_reply ForChallenge line = lasting_either (bytes_eq line (codes "DATA")) (Say Data ForOk) (Fail NotAwaited) tt tt
lasting_reply ForOk line = lasting_either (is_grant line) (End (Some Begin)) (Fail NotAwaited) tt tt

lasting_answer : (waiting : Waiting) (line : List ℕ) → IsLasting (answer waiting line)
unfolding answer
lasting_answer waiting line = lasting_either (nat_lt 16384 (length line + 2)) (Fail TooLong) (reply_to waiting line) tt (lasting_reply waiting line)

-- ---- what has come of a line is tidy

pub no_end_of_tidy : (stage : Stage) (line : List ℕ) → IsTidy stage line → HasNoEnd line
no_end_of_tidy Zero line h = let P : List ℕ → Type 0 = λ w. HasNoEnd w in subst P (sym h) no_end-nil
no_end_of_tidy (Waits waiting) line h = h
no_end_of_tidy Over line h = let P : List ℕ → Type 0 = λ w. HasNoEnd w in subst P (sym h) no_end-nil
no_end_of_tidy (Failed NoZero) line h = let P : List ℕ → Type 0 = λ w. HasNoEnd w in subst P (sym h) no_end-nil
no_end_of_tidy (Failed TooLong) line h = let P : List ℕ → Type 0 = λ w. HasNoEnd w in subst P (sym h) no_end-nil
no_end_of_tidy (Failed Early) line h = let P : List ℕ → Type 0 = λ w. HasNoEnd w in subst P (sym h) no_end-nil
no_end_of_tidy (Failed NotAwaited) line h = let P : List ℕ → Type 0 = λ w. HasNoEnd w in subst P (sym h) no_end-nil
no_end_of_tidy (Failed NoMemory) line h = absurd h

tidy_goes_on : (reply : Reply) (later : Waiting → Heard) (behind : List ℕ) → IsLasting reply
    → ((next : Waiting) → IsTidy (later next).stage (later next).line)
    → IsTidy (goes_on reply later behind).stage (goes_on reply later behind).line
tidy_goes_on (Say line next) later behind h k = k next
tidy_goes_on (End line) later behind h k = refl
tidy_goes_on (Fail NoZero) later behind h k = refl
tidy_goes_on (Fail TooLong) later behind h k = refl
tidy_goes_on (Fail Early) later behind h k = refl
tidy_goes_on (Fail NotAwaited) later behind h k = refl
tidy_goes_on (Fail NoMemory) later behind h k = absurd h

tidy_hears : (waiting : Waiting) (lines : List (List ℕ)) (rest : List ℕ) → HasNoEnd rest
    → IsTidy (hears waiting lines rest).stage (hears waiting lines rest).line
unfolding hears
tidy_hears waiting [] rest k =
    elim (nat_lt (length rest) 16384) as (λ t. IsTidy (cond t (silent (Waits waiting) rest) (silent (Failed TooLong) [])).stage (cond t (silent (Waits waiting) rest) (silent (Failed TooLong) [])).line) [
      | true ↦ k
      | false ↦ refl
    ]
tidy_hears waiting (line ∷ lines) rest k =
    tidy_goes_on (answer waiting line) (λ next. hears next lines rest) (joined lines rest) (lasting_answer waiting line)
    (λ next. tidy_hears next lines rest k)

tidy_bytes : (waiting : Waiting) (bytes : List ℕ) → IsTidy (hears_bytes waiting bytes).stage (hears_bytes waiting bytes).line
unfolding hears_bytes
tidy_bytes waiting bytes = tidy_hears waiting (lines_of bytes).whole (lines_of bytes).rest (rest-no_end bytes)

tidy_left_at : (said : List AuthLine) (stage : Stage) (left : List ℕ) → IsTidy (left_at said stage left).stage (left_at said stage left).line
    → IsTidy stage (left_at [] stage left).line
tidy_left_at said Zero left h = h
tidy_left_at said (Waits waiting) left h = h
tidy_left_at said Over left h = h
tidy_left_at said (Failed fault) left h = h

-- what a reply brings leaves a tidy rest
pub tidy_rest : (waiting : Waiting) (text bytes left : List ℕ) (reply : Reply) (said : List AuthLine) (stage : Stage) → reply ≡ answer waiting text
    → goes_on reply (λ next. hears_bytes next bytes) bytes ≡ left_at said stage left → IsTidy stage (left_at [] stage left).line
tidy_rest waiting text bytes left reply said stage a e =
    let L : Reply → Type 0 = λ r. IsLasting r in
    let P : Heard → Type 0 = λ h. IsTidy h.stage h.line in
    tidy_left_at said stage left
    (subst P e (tidy_goes_on reply (λ next. hears_bytes next bytes) bytes (subst L (sym a) (lasting_answer waiting text)) (λ next. tidy_bytes next bytes)))

-- ---- one line

-- a line that is longer than the limit
pub too_long_answer : (waiting : Waiting) (held last : List ℕ) → 16384 < length held + length last
    → Fail TooLong ≡ answer waiting (take (length held + length last - 2) (held ++ last))
unfolding answer
too_long_answer waiting held last h =
    let size : length (take (length held + length last - 2) (held ++ last)) ≡ length held + length last - 2 =
    omega (arith, length-take (length held + length last - 2) (held ++ last), length-append held last) in
    let long : nat_lt 16384 (length (take (length held + length last - 2) (held ++ last)) + 2) ≡ true = rw size (grind (arith, h)) in
    sym (ap (λ t. cond t (Fail TooLong) (reply_to waiting (take (length held + length last - 2) (held ++ last)))) long)

-- the line that was begun before
pub hears_first : (waiting : Waiting) (held bytes : List ℕ) (n : ℕ) (reply : Reply) → n ≤ length bytes
    → lines_of (held ++ take n bytes) ≡ record { whole = take (length held + n - 2) (held ++ take n bytes) ∷ []; rest = [] }
    → reply ≡ answer waiting (take (length held + length (take n bytes) - 2) (held ++ take n bytes))
    → hears_bytes waiting (held ++ bytes) ≡ goes_on reply (λ next. hears_bytes next (drop n bytes)) (drop n bytes)
hears_first waiting held bytes n reply h l a =
    let size : length (take n bytes) ≡ n = omega (arith, length-take n bytes) in
    hears-line waiting held bytes (take (length held + n - 2) (held ++ take n bytes)) n l
    ∙ ap (λ (r : Reply). goes_on r (λ next. hears_bytes next (drop n bytes)) (drop n bytes))
    (sym (a ∙ ap (λ k. answer waiting (take (length held + k - 2) (held ++ take n bytes))) size))

-- the same where what was begun is read twice
pub hears_begun : (waiting : Waiting) (held a b bytes : List ℕ) (n : ℕ) (reply : Reply) → a ≡ held → b ≡ held → n ≤ length bytes
    → lines_of (a ++ take n bytes) ≡ record { whole = take (length a + n - 2) (a ++ take n bytes) ∷ []; rest = [] }
    → reply ≡ answer waiting (take (length b + length (take n bytes) - 2) (b ++ take n bytes))
    → hears_bytes waiting (held ++ bytes) ≡ goes_on reply (λ next. hears_bytes next (drop n bytes)) (drop n bytes)
hears_begun waiting held a b bytes n reply ea eb h l r =
    let L : List ℕ → Type 0 = λ x. lines_of (x ++ take n bytes) ≡ record { whole = take (length x + n - 2) (x ++ take n bytes) ∷ []; rest = [] } in
    let R : List ℕ → Type 0 = λ x. reply ≡ answer waiting (take (length x + length (take n bytes) - 2) (x ++ take n bytes)) in
    hears_first waiting held bytes n reply h (subst L ea l) (subst R eb r)

-- ---- answers

-- the same end, by its parts
pub same_standing : (stage : Stage) (line line' : List ℕ) (unsent unsent' : List AuthLine) → line ≡ line' → unsent ≡ unsent'
    → ◌≡◌ {A = Standing} (record { stage = stage; line = line; unsent = unsent }) (record { stage = stage; line = line'; unsent = unsent' })
same_standing stage line line' unsent unsent' h k =
    ap (λ (l : List ℕ). record { stage = stage; line = l; unsent = unsent }) h
    ∙ ap (λ (u : List AuthLine). record { stage = stage; line = line'; unsent = u }) k

-- nothing was said
pub enter_silent : (now : Standing) (stage : Stage) (line : List ℕ)
    → enter now (silent stage line) ≡ record { stage = stage; line = line; unsent = now.unsent }
enter_silent now stage line = same_standing stage line line (now.unsent ++ []) now.unsent refl (append-nil now.unsent)

-- a fault, before which nothing was said
pub fails : (now new : Standing) (h : Heard) (fault : AuthFault) → h ≡ silent (Failed fault) []
    → new ≡ record { stage = Failed fault; line = []; unsent = now.unsent } → (new ≡ enter now h) × (fault_in h.stage ≡ Some fault)
fails now new h fault e k = (
  k ∙ sym (enter_silent now (Failed fault) []) ∙ ap (λ (h : Heard). enter now h) (sym e),
  ap (λ (h : Heard). fault_in h.stage) e,
)

-- all bytes are a part of a line
pub holds : (now new : Standing) (h : Heard) (waiting : Waiting) (line bytes : List ℕ) → h ≡ silent (Waits waiting) line
    → new ≡ record { stage = Waits waiting; line = line; unsent = now.unsent } → Tells (Ok (length bytes)) now new h bytes
holds now new h waiting line bytes e k = (
  k ∙ sym (enter_silent now (Waits waiting) line) ∙ ap (λ (h : Heard). enter now h) (sym e),
  ap (λ (h : Heard). fault_in h.stage) e,
  omega arith,
  drop-length bytes ∙ ap (λ (h : Heard). h.behind) (sym e),
)

pub unfinished_long : (waiting : Waiting) (x : List ℕ) → HasNoEnd x → 16384 ≤ length x → hears_bytes waiting x ≡ silent (Failed TooLong) []
unfinished_long waiting x h k =
    let t : nat_lt (length x) 16384 ≡ false = grind (arith, k) in
    hears-unfinished waiting x h ∙ ap (λ t. left_at [] (cond t (Waits waiting) (Failed TooLong)) x) t

pub unfinished_short : (waiting : Waiting) (x : List ℕ) → HasNoEnd x → length x < 16384 → hears_bytes waiting x ≡ silent (Waits waiting) x
unfinished_short waiting x h k =
    let t : nat_lt (length x) 16384 ≡ true = grind (arith, k) in
    hears-unfinished waiting x h ∙ ap (λ t. left_at [] (cond t (Waits waiting) (Failed TooLong)) x) t

-- ---- a server before the zero byte

-- no byte came
pub opens_nothing : (now : Standing) (piece : List ℕ) → now.stage ≡ Zero → now.line ≡ [] → (length piece == 0) ≡ true
    → Tells (Ok 0) now now (heard now.stage now.line piece) piece
unfolding heard
opens_nothing now [] z l h =
    let e : heard now.stage now.line [] ≡ silent Zero [] = ap (λ t. heard t now.line []) z in
    let same : now ≡ record { stage = Zero; line = []; unsent = now.unsent } =
    ap (λ (t : Stage). record { stage = t; line = now.line; unsent = now.unsent }) z ∙ same_standing Zero now.line [] now.unsent now.unsent l refl in (
      same ∙ sym (enter_silent now Zero []) ∙ ap (λ (h : Heard). enter now h) (sym e),
      ap (λ (h : Heard). fault_in h.stage) e,
      omega arith,
      ap (λ (h : Heard). h.behind) (sym e),
    )
opens_nothing now (b ∷ piece) z l h = absurd (omega (arith, eqb-true (length (b ∷ piece)) 0 h))

pub some_bytes : (piece : List ℕ) → (length piece == 0) ≡ false → 0 < length piece
some_bytes [] h = cc h
some_bytes (b ∷ piece) h = omega arith

-- the first byte is not 0
pub opens_badly : (stage : Stage) (line piece : List ℕ) → stage ≡ Zero → 0 < length piece → (get_or piece 0 0 ≡ 0 → ⊥)
    → heard stage line piece ≡ silent (Failed NoZero) []
unfolding heard
opens_badly stage line [] z h n = absurd (omega arith)
opens_badly stage line (b ∷ piece) z h n =
    let t : (b == 0) ≡ false = grind (arith, n) in
    ap (λ t. heard t line (b ∷ piece)) z ∙ ap (λ t. cond t (hears_bytes ForAuth piece) (silent (Failed NoZero) [])) t

-- the first byte is 0
pub opens : (stage : Stage) (line piece : List ℕ) → stage ≡ Zero → line ≡ [] → 0 < length piece → get_or piece 0 0 ≡ 0
    → heard stage line piece ≡ hears_bytes ForAuth (line ++ drop 1 piece)
unfolding heard
opens stage line [] z l h n = absurd (omega arith)
opens stage line (b ∷ piece) z l h n =
    let t : (b == 0) ≡ true = grind (arith, n) in
    ap (λ t. heard t line (b ∷ piece)) z ∙ ap (λ t. cond t (hears_bytes ForAuth piece) (silent (Failed NoZero) [])) t
    ∙ ap (λ w. hears_bytes ForAuth (w ++ piece)) (sym l)

-- the same where the rest is read apart
pub opens_to : (stage : Stage) (line piece rest : List ℕ) → rest ≡ drop 1 piece → stage ≡ Zero → line ≡ [] → 0 < length piece → get_or piece 0 0 ≡ 0
    → hears_bytes ForAuth (line ++ rest) ≡ heard stage line piece
opens_to stage line piece rest s z l h n = ap (λ w. hears_bytes ForAuth (line ++ w)) s ∙ sym (opens stage line piece z l h n)

-- ---- an end that is done

-- what stays stays
pub stays_over : (now : Standing) (piece : List ℕ) → now.stage ≡ Over → now.line ≡ [] → Tells (Ok 0) now now (heard now.stage now.line piece) piece
unfolding heard
stays_over now piece z l =
    let e : heard now.stage now.line piece ≡ ends [] piece = ap (λ t. heard t now.line piece) z ∙ ap (λ w. ends [] (w ++ piece)) l in
    let same : now ≡ record { stage = Over; line = []; unsent = now.unsent } =
    ap (λ (t : Stage). record { stage = t; line = now.line; unsent = now.unsent }) z ∙ same_standing Over now.line [] now.unsent now.unsent l refl in (
      same ∙ same_standing Over [] [] now.unsent (now.unsent ++ []) refl (sym (append-nil now.unsent)) ∙ ap (λ (h : Heard). enter now h) (sym e),
      ap (λ (h : Heard). fault_in h.stage) e,
      omega arith,
      ap (λ (h : Heard). h.behind) (sym e),
    )

stays_at : (now : Standing) (piece : List ℕ) (fault : AuthFault) → now.stage ≡ Failed fault → now.line ≡ []
    → (now ≡ enter now (heard now.stage now.line piece)) × (fault_in (heard now.stage now.line piece).stage ≡ Some fault)
unfolding heard
stays_at now piece fault z l =
    let same : now ≡ record { stage = Failed fault; line = []; unsent = now.unsent } =
    ap (λ (t : Stage). record { stage = t; line = now.line; unsent = now.unsent }) z
    ∙ same_standing (Failed fault) now.line [] now.unsent now.unsent l refl in
    fails now now (heard now.stage now.line piece) fault (ap (λ t. heard t now.line piece) z) same

pub tidy_at : (stage : Stage) (line : List ℕ) (other : Stage) → stage ≡ other → IsTidy stage line → IsTidy other line
tidy_at stage line other e h = let P : Stage → Type 0 = λ t. IsTidy t line in subst P e h

pub stays_failed : (now : Standing) (piece : List ℕ) (fault : AuthFault) → now.stage ≡ Failed fault → IsTidy now.stage now.line
    → Refuses fault now now (heard now.stage now.line piece)
stays_failed now piece NoZero z l = stays_at now piece NoZero z (tidy_at now.stage now.line (Failed NoZero) z l)
stays_failed now piece TooLong z l = stays_at now piece TooLong z (tidy_at now.stage now.line (Failed TooLong) z l)
stays_failed now piece Early z l = stays_at now piece Early z (tidy_at now.stage now.line (Failed Early) z l)
stays_failed now piece NotAwaited z l = stays_at now piece NotAwaited z (tidy_at now.stage now.line (Failed NotAwaited) z l)
stays_failed now piece NoMemory z l = refl

-- ---- what was heard, under another name

pub tells_as : (r : Result ℕ AuthFault) (old new : Standing) (h other : Heard) (bytes : List ℕ) → h ≡ other → Tells r old new h bytes → Tells r old new other bytes
tells_as r old new h other bytes e k = let P : Heard → Type 0 = λ h. Tells r old new h bytes in subst P e k

pub refuses_as : (fault : AuthFault) (old new : Standing) (h other : Heard) → h ≡ other → Refuses fault old new h → Refuses fault old new other
refuses_as fault old new h other e k = let P : Heard → Type 0 = λ h. Refuses fault old new h in subst P e k

-- one byte more was taken
pub one_more : (taken : ℕ) (old new : Standing) (h other : Heard) (piece rest : List ℕ) → h ≡ other → rest ≡ drop 1 piece → 0 < length piece
    → Tells (Ok taken) old new h rest → Tells (Ok (taken + 1)) old new other piece
one_more taken old new h other piece rest e s l k =
    let told = tells_as (Ok taken) old new h other rest e k in
    let place : 1 + taken ≡ taken + 1 = omega arith in (
      told.0,
      told.1,
      omega (arith, told.2, ap length s, length-drop 1 piece),
      ap (λ n. drop n piece) (sym place) ∙ sym (drop-drop taken 1 piece) ∙ ap (λ w. drop taken w) (sym s) ∙ told.3,
    )

pub waits_on : (stage : Stage) (line piece : List ℕ) (waiting : Waiting) → stage ≡ Waits waiting → hears_bytes waiting (line ++ piece) ≡ heard stage line piece
unfolding heard
waits_on stage line piece waiting e = ap (λ t. heard t line piece) (sym e)
