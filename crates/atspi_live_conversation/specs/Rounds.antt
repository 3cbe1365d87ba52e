-- The rounds of a run on a link, as the calls of a host: in each one read, and then one write exactly where not all is
-- given that is due.
use Rattle.std.specs.Prelude.{◌≡◌, ◌⊎◌, ◌<◌, ◌≤◌, ℕ, zero, suc, List, [], ◌∷◌, ◌++◌, length, Option, None, Some, ⊤}
use Rattle.atspi_message.specs.Envelope.{Envelope}
use Rattle.atspi_live_host.specs.declared.call.Did.{Did}
use Rattle.atspi_live_host.specs.declared.call.Did.TheVariants.{End, Failed}
use Rattle.atspi_live_host.specs.declared.call.Call.{Call}
use Rattle.atspi_live_host.specs.declared.call.Call.TheVariants.{Read, Write}
use Rattle.atspi_live_host.specs.Calls.{taken, given}
use Rattle.atspi_live_conversation.specs.Moved.{GoesOn}
use Rattle.atspi_live_conversation.specs.Speech.{IsAllGiven, IsSpeech}
use Rattle.atspi_live_conversation.specs.declared.ending.Ending.{Ending}
use Rattle.atspi_live_conversation.specs.declared.ending.Ending.TheVariants as endings

-- one read of at most so many bytes, behind which the run can go on
abbrev pub IsRead : ℕ → ℕ → List Call → Type 0
IsRead k most calls = (bytes : List ℕ) × (did : Did) × GoesOn did × (length bytes ≤ most)
    × (calls ≡ Read k bytes did ∷ [])

-- where these bytes were taken and those given: one write, answered so, of the next 1 to 4,096 bytes that the end says
abbrev pub IsWrite : {E : Type 0} → (E → List Envelope → List Envelope → Type 0) → ℕ → List ℕ → List ℕ → Did → List Call
    → Type 0
IsWrite Stands k t g did calls = (bytes : List ℕ) × (0 < length bytes) × (length bytes ≤ 4096)
    × IsSpeech Stands t (g ++ bytes) × (calls ≡ Write k bytes did ∷ [])

-- no call where all is given that is due, and else one write behind which the run can go on
abbrev pub WritesIfDue : {E : Type 0} → (E → List Envelope → List Envelope → Type 0) → (E → Type 0) → ℕ → List ℕ
    → List ℕ → List Call → Type 0
WritesIfDue Stands IsEmpty k t g calls = ((calls ≡ []) × IsAllGiven Stands IsEmpty t g)
    ⊎ ((did : Did) × GoesOn did × IsWrite Stands k t g did calls)

-- a whole round behind others, in which these bytes were taken and those given: one read, and then one write exactly
-- where not all is given that is due
abbrev pub IsRound : {E : Type 0} → (E → List Envelope → List Envelope → Type 0) → (E → Type 0) → ℕ → ℕ → List ℕ
    → List ℕ → List Call → Type 0
IsRound Stands IsEmpty k most t g calls =
    (read : List Call) × (write : List Call) × IsRead k most read
    × WritesIfDue Stands IsEmpty k (t ++ taken k read) g write × (calls ≡ read ++ write)

-- So many whole rounds, one behind the other. What the end says may hang on how many have begun.
abbrev pub AreRounds : {E : Type 0} → (ℕ → E → List Envelope → List Envelope → Type 0) → (E → Type 0) → ℕ → ℕ → ℕ
    → List Call → Type 0
AreRounds Stands IsEmpty k most zero calls = calls ≡ []
AreRounds Stands IsEmpty k most (suc n) calls =
    (before : List Call) × (round : List Call) × AreRounds Stands IsEmpty k most n before
    × IsRound (Stands (suc n)) IsEmpty k most (taken k before) (given k before) round
    × (calls ≡ before ++ round)

-- the calls of a round in which a run ended so, which is not whole; before it these bytes were taken and those given
abbrev pub Breaks : {E : Type 0} → (E → List Envelope → List Envelope → Type 0) → (E → Type 0) → ℕ → ℕ → Ending → List ℕ
    → List ℕ → List Call → Type 0
Breaks Stands IsEmpty k most endings.RoundsDone t g calls = ⊥
Breaks Stands IsEmpty k most endings.PeerEnded t g calls = calls ≡ Read k [] End ∷ []
Breaks Stands IsEmpty k most endings.HostFailed t g calls =
    (calls ≡ Read k [] Failed ∷ [])
    ⊎ ((read : List Call) × (write : List Call) × IsRead k most read
    × IsWrite Stands k (t ++ taken k read) g Failed write × (calls ≡ read ++ write))
Breaks Stands IsEmpty k most endings.NotAuthenticated t g calls = IsRead k most calls
Breaks Stands IsEmpty k most (endings.Malformed start fault) t g calls = IsRead k most calls
Breaks Stands IsEmpty k most endings.Spent t g calls = IsRead k most calls
Breaks Stands IsEmpty k most endings.NoMemory t g calls = IsRead k most calls ⊎ IsRound Stands IsEmpty k most t g calls

-- behind so many whole rounds a run ended so: all of them were done exactly where that is why
abbrev pub EndsBehind : {E : Type 0} → (E → List Envelope → List Envelope → Type 0) → (E → Type 0) → ℕ → ℕ → Ending → ℕ
    → ℕ → List ℕ → List ℕ → List Call → Type 0
EndsBehind Stands IsEmpty k most endings.RoundsDone whole rounds t g last = (whole ≡ rounds) × (last ≡ [])
EndsBehind Stands IsEmpty k most ending whole rounds t g last = (whole < rounds)
    × Breaks Stands IsEmpty k most ending t g last

-- A run on a link that ended so: whole rounds, and then the calls of the one in which it ended.
pub record IsRun {E : Type 0} (Stands : ℕ → E → List Envelope → List Envelope → Type 0) (IsEmpty : E → Type 0)
    (k most : ℕ) (ending : Ending) (rounds : ℕ) (calls : List Call) : Type 0 where
  pub whole : ℕ
  pub done : List Call
  pub last : List Call
  pub are : AreRounds Stands IsEmpty k most whole done
  pub ends : EndsBehind (Stands (suc whole)) IsEmpty k most ending whole rounds (taken k done) (given k done) last
  pub all : calls ≡ done ++ last

-- what a host tells afterwards is what it told before, and then such calls; or it tells no more
abbrev pub Makes : Option (List Call) → Option (List Call) → (List Call → Type 0) → Type 0
Makes old None P = ⊤
Makes None (Some ds) P = ⊥
Makes (Some cs) (Some ds) P = (calls : List Call) × P calls × (ds ≡ cs ++ calls)
