-- The rounds of the bus, as the calls of a host, and the bus itself through all of them.
use Rattle.std.specs.Prelude.{◌≡◌, ◌≢◌, ◌⊎◌, ◌<◌, ◌≤◌, ℕ, zero, suc, Bool, true, false, List, ◌∷◌, ◌++◌, length, []}
use Rattle.std.specs.Prelude.{Some}
use Rattle.atspi_live_host.specs.declared.call.Did.{Did}
use Rattle.atspi_live_host.specs.declared.call.Did.TheVariants.{Done, Failed}
use Rattle.atspi_live_host.specs.declared.call.Call.{Call}
use Rattle.atspi_live_host.specs.declared.call.Call.TheVariants.{Listen, Accept, Read, Write}
use Rattle.atspi_live_host.specs.Calls.{IsOpen, taken}
use Rattle.atspi_live_bus.specs.Asked.{Spends}
use Rattle.atspi_live_bus.specs.Closes.{FollowsRead, FollowsWrite}
use Rattle.atspi_live_bus.specs.Course.{Accepts, Course, HandsOut, IsCourse, start}
use Rattle.atspi_live_bus.specs.Due.{HasAllGiven}
use Rattle.atspi_live_bus.specs.Opened.{open_behind}
use Rattle.atspi_live_bus.specs.Stops.{status_of}
use Rattle.atspi_live_bus.specs.declared.stop.Stop.{Stop}
use Rattle.atspi_live_bus.specs.declared.stop.Stop.TheVariants as stops

-- One read of at most 4,096 bytes, and the closes that it brings.
abbrev pub IsHeard : Bool → Course → List Call → List ℕ → ℕ → ℕ → List Call → Course → Type 0
IsHeard whole x past links k c calls y =
    (bytes : List ℕ) × (did : Did) × (closes : List Call) × (length bytes ≤ 4096)
    × FollowsRead whole k c x links did (taken k (past ++ Read k bytes did ∷ [])) closes y
    × (calls ≡ Read k bytes did ∷ closes)

-- the bytes are the next that wait for the link: were all of them given, what is given on the links would be that of
-- this bus
abbrev pub Wait : Course → List Call → ℕ → List ℕ → Type 0
Wait x past k bytes = IsCourse x (past ++ Write k bytes (Done (length bytes)) ∷ [])

-- One write of 1 to 4,096 bytes that wait, of those that the bus handed out before or now, and the closes that it
-- brings.
abbrev pub IsGift : Bool → Course → List Call → List ℕ → ℕ → ℕ → List Call → Course → Type 0
IsGift whole x past links k c calls y =
    (mid : Course) × (bytes : List ℕ) × (did : Did) × (closes : List Call) × HandsOut c x mid × (0 < length bytes)
    × (length bytes ≤ 4096) × Wait mid past k bytes × FollowsWrite whole k c mid links did closes y
    × (calls ≡ Write k bytes did ∷ closes)

-- A write exactly where the link is open and not all was given that waits. Or the bus stopped there.
abbrev pub MayGive : Bool → Course → List Call → List ℕ → ℕ → ℕ → List Call → Course → Type 0
MayGive true x past links k c calls y =
    ((IsOpen k links → ⊥) × (calls ≡ []) × (y ≡ x))
    ⊎ ((IsOpen k links × HandsOut c x y × HasAllGiven y past k × (calls ≡ []))
    ⊎ (IsOpen k links × IsGift true x past links k c calls y))
MayGive false x past links k c calls y = ((calls ≡ []) × (y ≡ x))
    ⊎ (IsOpen k links × IsGift false x past links k c calls y)

-- The turn of a link, which leads the bus from here to there: a read, and then maybe a write.
abbrev pub IsTurn : Course → List Call → ℕ → List Call → Course → Type 0
IsTurn x past k calls y =
    (c : ℕ) × (mid : Course) × (read : List Call) × (gift : List Call) × (x.conn k ≡ Some c)
    × IsHeard true x past (open_behind past) k c read mid
    × MayGive true mid (past ++ read) (open_behind (past ++ read)) k c gift y × (calls ≡ read ++ gift)

-- a read that was broken off, or one behind which the write was
abbrev pub IsPart : Course → List Call → ℕ → ℕ → List Call → Course → Type 0
IsPart x past k c calls y =
    IsHeard false x past (open_behind past) k c calls y
    ⊎ ((mid : Course) × (read : List Call) × (gift : List Call) × IsHeard true x past (open_behind past) k c read mid
    × MayGive false mid (past ++ read) (open_behind (past ++ read)) k c gift y × (calls ≡ read ++ gift))

-- a turn that was broken off: nothing, or of a link that is open a part
abbrev pub IsCut : Course → List Call → ℕ → List Call → Course → Type 0
IsCut x past k calls y = ((calls ≡ []) × (y ≡ x))
    ⊎ (IsOpen k (open_behind past) × (c : ℕ) × (x.conn k ≡ Some c) × IsPart x past k c calls y)

-- only where not all turns are whole
abbrev pub MayBeCut : Bool → Course → List Call → ℕ → List Call → Course → Type 0
MayBeCut true x past k calls y = ⊥
MayBeCut false x past k calls y = IsCut x past k calls y

-- The turns of these links, one behind the other: all of them whole, or up to one that was broken off. A link that was
-- closed before its turn has none.
abbrev pub AreTurns : Bool → Course → List Call → List ℕ → List Call → Course → Type 0
AreTurns whole x past [] calls y = (calls ≡ []) × (y ≡ x)
AreTurns whole x past (k ∷ ks) calls y =
    MayBeCut whole x past k calls y
    ⊎ (((IsOpen k (open_behind past) → ⊥) × AreTurns whole x past ks calls y)
    ⊎ (IsOpen k (open_behind past)
    × ((mid : Course) × (turn : List Call) × (rest : List Call) × IsTurn x past k turn mid
    × AreTurns whole mid (past ++ turn) ks rest y × (calls ≡ turn ++ rest))))

-- A round: one accept, and then the turns of all links that are open, in the order in which they were accepted.
abbrev pub IsRound : Bool → Course → List Call → List Call → Course → Type 0
IsRound whole x past calls y =
    (did : Did) × (mid : Course) × (turns : List Call) × Accepts did x mid
    × AreTurns whole mid (past ++ Accept did ∷ []) (open_behind (past ++ Accept did ∷ [])) turns y
    × (calls ≡ Accept did ∷ turns)

-- So many whole rounds, one behind the other.
abbrev pub AreRounds : ℕ → Course → List Call → List Call → Course → Type 0
AreRounds zero x past calls y = (calls ≡ []) × (y ≡ x)
AreRounds (suc n) x past calls y =
    (mid : Course) × (before : List Call) × (round : List Call) × AreRounds n x past before mid
    × IsRound true mid (past ++ before) round y × (calls ≡ before ++ round)

-- an accept whose link did not join any more
abbrev pub IsNotSeated : Course → List Call → Course → Type 0
IsNotSeated x calls y = (k : ℕ) × (calls ≡ Accept (Done k) ∷ []) × (y ≡ x)

-- The calls of the round in which the bus stopped.
abbrev pub Breaks : Stop → Course → List Call → List Call → Course → Type 0
Breaks stops.HostFailed x past calls y = (calls ≡ Accept Failed ∷ []) × (y ≡ x)
Breaks stops.Spent x past calls y = IsRound false x past calls y × Spends y.bus
Breaks stops.NoMemory x past calls y = IsRound false x past calls y ⊎ IsNotSeated x calls y

-- behind so many whole rounds the bus stopped in one, and this is its status; or all were done
abbrev pub EndsBehind : ℕ → ℕ → ℕ → Course → List Call → List Call → Course → Type 0
EndsBehind status whole rounds x past last y =
    ((status ≡ 8) × (whole ≡ rounds) × (last ≡ []) × (y ≡ x))
    ⊎ ((stop : Stop) × (status ≡ status_of stop) × (whole < rounds) × Breaks stop x past last y)

-- Rounds of one bus behind these calls, with this status: where the whole rounds lead it, and where it then ends.
pub record Served (status rounds : ℕ) (past calls : List Call) : Type 0 where
  pub whole : ℕ
  pub done : List Call
  pub last : List Call
  pub led : Course
  pub ended : Course
  pub are : AreRounds whole start past done led
  pub ends : EndsBehind status whole rounds led (past ++ done) last ended
  pub all : calls ≡ done ++ last
  pub fits : IsCourse ended (past ++ calls)

-- The calls of a run of the bus: a listen, and behind it rounds; or one that failed, and nothing else.
abbrev pub IsRun : List ℕ → ℕ → ℕ → List Call → Type 0
IsRun path status rounds calls =
    ((status ≡ 7) × (calls ≡ Listen path Failed ∷ []))
    ⊎ ((did : Did) × (behind : List Call) × (did ≢ Failed) × Served status rounds (Listen path did ∷ []) behind
    × (calls ≡ Listen path did ∷ behind))
