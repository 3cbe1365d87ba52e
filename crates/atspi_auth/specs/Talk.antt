-- The conversation of one end, as a function of all the bytes that it was fed: the lines that it says, and how it ends.
use Rattle.std.specs.Prelude.{◌≡◌, ℕ, ◌==◌, ◌≤◌, Bool, true, false, nat_lt, if◌then◌else◌, List, [], ◌∷◌, ◌++◌, length}
use Rattle.std.specs.Prelude.{drop, Option, None, Some, option_to_list, Result, Ok, Err}
use Rattle.atspi_auth.specs.Lines.{HasNoEnd, lines_of, joined}
use Rattle.atspi_auth.specs.Replies.{answer}
use Rattle.atspi_auth.specs.declared.fault.AuthFault.{AuthFault}
use Rattle.atspi_auth.specs.declared.fault.AuthFault.TheVariants.{NoZero, TooLong, NoMemory}
use Rattle.atspi_auth.specs.declared.said.AuthLine.{AuthLine}
use Rattle.atspi_auth.specs.declared.said.AuthLine.TheVariants.{Hail}
use Rattle.atspi_auth.specs.declared.reply.Waiting.{Waiting}
use Rattle.atspi_auth.specs.declared.reply.Waiting.TheVariants.{ForAuth, ForChallenge}
use Rattle.atspi_auth.specs.declared.reply.Reply.{Reply}
use Rattle.atspi_auth.specs.declared.reply.Reply.TheVariants.{Say, End, Fail}
use Rattle.atspi_auth.specs.declared.stage.Stage.{Stage}
use Rattle.atspi_auth.specs.declared.stage.Stage.TheVariants.{Zero, Waits, Over, Failed}

-- what an end makes of some bytes: the lines said, where it then stands, what has come of a line that is not whole, and
-- what stands behind the last line
pub record Heard : Type 0 where
  pub said : List AuthLine
  pub stage : Stage
  pub line : List ℕ
  pub behind : List ℕ

-- nothing is said, and an end stands here
abbrev pub silent : Stage → List ℕ → Heard
silent stage line = record { said = []; stage = stage; line = line; behind = [] }

-- these lines are said first
abbrev pub say : List AuthLine → Heard → Heard
say first heard = record { said = first ++ heard.said; stage = heard.stage; line = heard.line; behind = heard.behind }

-- the lines are over, and these bytes stand behind them
abbrev pub ends : List AuthLine → List ℕ → Heard
ends said behind = record { said = said; stage = Over; line = []; behind = behind }

-- what a reply brings, where the later lines bring `later` and their bytes are `behind`
abbrev pub goes_on : Reply → (Waiting → Heard) → List ℕ → Heard
goes_on (Say line waiting) later behind = say (line ∷ []) (later waiting)
goes_on (End line) later behind = ends (option_to_list line) behind
goes_on (Fail fault) later behind = silent (Failed fault) []

-- what whole lines and a rest bring to an end that waits
unfoldable pub hears : Waiting → List (List ℕ) → List ℕ → Heard
hears waiting [] rest = if nat_lt (length rest) 16384 then silent (Waits waiting) rest else silent (Failed TooLong) []
hears waiting (line ∷ lines) rest = goes_on (answer waiting line) (λ next. hears next lines rest) (joined lines rest)

-- the same for the lines of some bytes
unfoldable pub hears_bytes : Waiting → List ℕ → Heard
hears_bytes waiting bytes = hears waiting (lines_of bytes).whole (lines_of bytes).rest

-- what bytes bring to an end where it stands, behind a line that is not whole
unfoldable pub heard : Stage → List ℕ → List ℕ → Heard
heard Zero line [] = silent Zero []
heard Zero line (b ∷ bytes) = if b == 0 then hears_bytes ForAuth bytes else silent (Failed NoZero) []
heard (Waits waiting) line bytes = hears_bytes waiting (line ++ bytes)
heard Over line bytes = ends [] (line ++ bytes)
heard (Failed fault) line bytes = silent (Failed fault) []

-- an end: where it stands, what has come of a line that is not whole, and the lines that are still to be handed out
pub record Standing : Type 0 where
  pub stage : Stage
  pub line : List ℕ
  pub unsent : List AuthLine

-- a server before the first byte, which is to be 0
abbrev pub server_start : Standing
server_start = record { stage = Zero; line = []; unsent = [] }

-- a client before the first byte
abbrev pub client_start : Standing
client_start = record { stage = Waits ForChallenge; line = []; unsent = Hail ∷ [] }

-- a client that has handed out its first line, or has that before all others
abbrev pub after_hail : Bool → Standing → Standing
after_hail true now = now
after_hail false now = record { stage = now.stage; line = now.line; unsent = Hail ∷ now.unsent }

-- the end after it heard this
abbrev pub enter : Standing → Heard → Standing
enter now heard = record { stage = heard.stage; line = heard.line; unsent = now.unsent ++ heard.said }

-- what bytes bring to this end
abbrev pub told : Standing → List ℕ → Heard
told now bytes = heard now.stage now.line bytes

-- the end after these bytes
abbrev pub after : Standing → List ℕ → Standing
after now bytes = enter now (told now bytes)

-- those of the bytes that stand behind the last line, for messages
abbrev pub behind : Standing → List ℕ → List ℕ
behind now bytes = (told now bytes).behind

-- from its start on the end was fed these bytes, and handed out these lines: with those that it still has to hand out
-- they are all lines of the bytes, and it stands where the bytes lead
abbrev pub Stands : Standing → List ℕ → List AuthLine → Standing → Type 0
Stands start fed given now = record { stage = now.stage; line = now.line; unsent = given ++ now.unsent }
    ≡ after start fed

-- whatever was fed and handed out before, these bytes were fed now
abbrev pub Continues : Standing → Standing → Standing → List ℕ → Type 0
Continues start old new bytes =
    (fed : List ℕ) (given : List AuthLine) → Stands start fed given old → Stands start (fed ++ bytes) given new

-- whatever was fed and handed out before, these lines were handed out now
abbrev pub HandsOut : Standing → Standing → Standing → List AuthLine → Type 0
HandsOut start old new lines =
    (fed : List ℕ) (given : List AuthLine) → Stands start fed given old → Stands start fed (given ++ lines) new

-- the fault that stands
abbrev pub fault_in : Stage → Option AuthFault
fault_in (Failed fault) = Some fault
fault_in stage = None

-- what is left by a call that answers an error: all as it was where memory was wanting, and else the fault that the
-- bytes show
abbrev pub Refuses : AuthFault → Standing → Standing → Heard → Type 0
Refuses NoMemory old new heard = new ≡ old
Refuses fault old new heard = (new ≡ enter old heard) × (fault_in heard.stage ≡ Some fault)

-- what hearing this in some bytes answers and leaves: how many of the bytes were taken, or an error
abbrev pub Tells : Result ℕ AuthFault → Standing → Standing → Heard → List ℕ → Type 0
Tells (Ok taken) old new heard bytes =
    (new ≡ enter old heard) × (fault_in heard.stage ≡ None) × (taken ≤ length bytes) × (drop taken bytes ≡ heard.behind)
Tells (Err fault) old new heard bytes = Refuses fault old new heard

-- what is heard where whole lines have brought an end here, and these bytes are left
abbrev pub left_at : List AuthLine → Stage → List ℕ → Heard
left_at said (Waits waiting) left = record { said = said; stage = Waits waiting; line = left; behind = [] }
left_at said Over left = ends said left
left_at said stage left = record { said = said; stage = stage; line = []; behind = [] }

-- what feeding answers an end that then stands here: it takes all of `len` bytes, or those before a place
abbrev pub taken_of : Stage → ℕ → ℕ → Result ℕ AuthFault
taken_of Over at len = Ok at
taken_of (Failed fault) at len = Err fault
taken_of stage at len = Ok len

-- what has come of a line can stand there: no line ends in it, and only an end that waits has one; want of memory is no
-- fault that stays
abbrev pub IsTidy : Stage → List ℕ → Type 0
IsTidy (Waits waiting) line = HasNoEnd line
IsTidy (Failed NoMemory) line = ⊥
IsTidy stage line = line ≡ []
