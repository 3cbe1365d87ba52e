-- Which lines of an input were done before which rounds.
use Rattle.std.specs.Prelude.{◌≡◌, ◌⊎◌, ◌<◌, ◌≤◌, ℕ, ◌+◌, List, [], ◌∷◌, ◌++◌, length, map, max, Option, None, Some, ⊤}
use Rattle.atspi_auth.specs.Talk.{behind, client_start}
use Rattle.atspi_message.specs.Envelope.{Envelope}
use Rattle.atspi_stream.specs.Stream.{AwaitsMore, IsParted}
use Rattle.atspi_live_host.specs.declared.call.Call.{Call}
use Rattle.atspi_live_host.specs.Calls.{taken}
use Rattle.atspi_live_conversation.specs.Rounds.{Breaks}
use Rattle.atspi_live_conversation.specs.declared.ending.Ending.{Ending}
use Rattle.atspi_live_conversation.specs.declared.ending.Ending.TheVariants as endings
use Rattle.atspi_live_app.specs.Asking.{IsAsk}
use Rattle.atspi_live_app.specs.Input.{left_in}
use Rattle.atspi_live_app.specs.Standing.{Event, IsAfter, IsEmpty}
use Rattle.atspi_live_app.specs.declared.asking.Ask.{Ask}
use Rattle.atspi_live_app.specs.declared.asking.Ask.TheVariants as ask
use Rattle.atspi_live_app.specs.declared.over.Over.{Over}
use Rattle.atspi_live_app.specs.declared.over.Over.TheVariants as overs

-- how many rounds what a line asks for takes: `wait N` N rounds, or one where N is 0, and all else one
abbrev pub rounds_of : Ask → ℕ
rounds_of (ask.Wait n) = max n 1
rounds_of (ask.Start name) = 1
rounds_of (ask.Edit edit) = 1
rounds_of ask.Nothing = 1

-- a line that takes so many rounds
abbrev pub Takes : List ℕ × ℕ → Type 0
Takes timed = (what : Ask) × IsAsk what timed.0 × (timed.1 ≡ rounds_of what)

abbrev pub AllTake : List (List ℕ × ℕ) → Type 0
AllTake [] = Unit {0}
AllTake (t ∷ ts) = Takes t × AllTake ts

-- the line at a place, which takes so many rounds, was passed behind so many messages, and the next one begins at
-- another place; or none is left
abbrev pub Proceeds : List ℕ → ℕ → List ℕ → ℕ → ℕ → ℕ → List ℕ → Type 0
Proceeds text place marks count rounds place' marks' =
    ((line : List ℕ) × (left_in text place ≡ line ∷ left_in text place') × Takes (line, rounds)
    × (marks' ≡ marks ++ count ∷ []))
    ⊎ ((left_in text place ≡ []) × (place' ≡ place) × (rounds ≡ 1) × (marks' ≡ marks))

-- the next line is passed before a round where the last one has taken all its rounds
abbrev pub GoesOn : List ℕ → ℕ → List ℕ → ℕ → ℕ → ℕ → ℕ → List ℕ → Type 0
GoesOn text place marks count takes takes' place' marks' =
    ((0 < takes) × (takes' ≡ takes) × (place' ≡ place) × (marks' ≡ marks))
    ⊎ ((takes ≡ 0) × Proceeds text place marks count takes' place' marks')

-- so many messages are whole in the bytes of a link, where a host tells its calls
abbrev pub HasWhole : List ℕ → ℕ → Type 0
HasWhole t count = (messages : List (Envelope × List ℕ)) × (rest : List ℕ)
    × IsParted (behind client_start t) messages rest × AwaitsMore rest × (length messages ≡ count)

abbrev pub Heard : ℕ → Option (List Call) → ℕ → Type 0
Heard k None count = ⊤
Heard k (Some cs) count = HasWhole (taken k cs) count

-- why a turn ended the run: in its round, or before it, where a line was due
abbrev pub EndsTurn : List ℕ → ℕ → List ℕ → ℕ → ℕ → Option (List Call) → Over → List ℕ → Type 0
EndsTurn text place marks takes k calls (overs.Ended ending) marks' =
    (takes' : ℕ) × (place' : ℕ) × (count : ℕ) × GoesOn text place marks count takes takes' place' marks'
    × Heard k calls count
EndsTurn text place marks takes k calls (overs.Stopped stop) marks' = (takes ≡ 0) × (marks' ≡ marks)

-- the calls of a turn that ended the run, before which these bytes were taken and those given
abbrev pub BreaksOver : (List Event → List (List ℕ) → Type 0) → List (List ℕ) → ℕ → ℕ → Over → List ℕ → List ℕ
    → List Call → Type 0
BreaksOver IsOrder lines k most (overs.Ended ending) t g calls =
    Breaks (IsAfter IsOrder lines) IsEmpty k most ending t g calls
BreaksOver IsOrder lines k most (overs.Stopped stop) t g calls = calls ≡ []

-- how many rounds all of them take
abbrev pub total : List (List ℕ × ℕ) → ℕ
total [] = 0
total (t ∷ ts) = t.1 + total ts

-- each line stands before the read of the round behind those that the lines before it take, where so many rounds were
-- before the first, and so many have begun
abbrev pub Starts : ℕ → ℕ → List (List ℕ × ℕ) → Type 0
Starts before begun [] = Unit {0}
Starts before begun (t ∷ ts) = (before < begun) × Starts (before + t.1) begun ts

-- Where so many rounds have begun, these lines at the front of all were done, each before the read of its round, and
-- the next one is not yet due.
pub record IsPaced (lines : List (List ℕ)) (begun : ℕ) : Type 0 where
  pub done : List (List ℕ × ℕ)
  pub left : List (List ℕ)
  pub all : map (λ (t : List ℕ × ℕ). t.0) done ++ left ≡ lines
  pub take : AllTake done
  pub started : Starts 0 begun done
  pub due : (left ≡ []) ⊎ (begun ≤ total done)

-- Behind so many whole rounds the next line is not done: it stands before the read of the round behind those that the
-- lines before it take. Where no line is left, those before it take no more.
pub record StopsAt (lines : List (List ℕ)) (whole : ℕ) : Type 0 where
  pub done : List (List ℕ × ℕ)
  pub left : List (List ℕ)
  pub all : map (λ (t : List ℕ × ℕ). t.0) done ++ left ≡ lines
  pub take : AllTake done
  pub started : Starts 0 whole done
  pub due : (whole ≡ total done) ⊎ ((left ≡ []) × (total done ≤ whole))

-- how many rounds have begun where a run ended so behind so many whole ones
abbrev pub begun_by : Ending → ℕ → ℕ
begun_by endings.RoundsDone whole = whole
begun_by ending whole = whole + 1
