-- The links of the bus by their numbers and connections, and what calls leave of them.
use Rattle.std.specs.Prelude.{◌≡◌, ◌<◌, ◌≤◌, ◌+◌, ◌⊎◌, ℕ, ◌==◌, Bool, true, false, List, [], ◌∷◌, ◌++◌, length, map}
use Rattle.std.specs.Prelude.{Some, if◌then◌else◌, zero, suc, ⊤}
use Rattle.atspi_message.specs.Envelope.{Envelope}
use Rattle.atspi_live_host.specs.Calls.{IsOpen, front, taken}
use Rattle.atspi_live_host.specs.declared.call.Did.{Did}
use Rattle.atspi_live_host.specs.declared.call.Did.TheVariants.{Failed}
use Rattle.atspi_live_host.specs.declared.call.Call.{Call}
use Rattle.atspi_live_host.specs.declared.call.Call.TheVariants.{Listen, Accept, Connect, Read, Write, Close}
use Rattle.atspi_match.specs.declared.routing.closing.Closing.{Closing}
use Rattle.atspi_match.specs.routing.Queues as queues
use Rattle.atspi_bus.specs.declared.bus.Bus.{Bus}
use Rattle.atspi_live_bus.specs.Asked.{Asked, taking, Runs}
use Rattle.atspi_live_bus.specs.Closes.{AreShut, AreTaken, Attends, Follows, IsShut, Parts}
use Rattle.atspi_live_bus.specs.Course.{Accepts, AreTellings, Course, Steps, told_all}
use Rattle.atspi_live_bus.specs.Opened.{open_behind}
use Rattle.atspi_live_bus.specs.Rounds.{IsHeard, MayGive}
use Rattle.atspi_live_bus.specs.inner.Rounds.{GoesOn}
use Rattle.atspi_live_bus.specs.Service.{IsSpeech}
use Rattle.atspi_live_bus.specs.Turns.{Converses}
use Rattle.atspi_live_bus.specs.inner.Turns.{Goes, IsSilent, Remains}
use Rattle.atspi_live_bus.specs.declared.link.Link.{Link}
use lib.Dec.{leb}

-- numbers and connections, in the order in which they joined
abbrev pub seats : List Link → List (ℕ × ℕ)
seats links = map (λ (l : Link). (l.number, l.conn)) links

abbrev pub numbers_of : List (ℕ × ℕ) → List ℕ
numbers_of ss = map (λ (s : ℕ × ℕ). s.0) ss

abbrev pub number_at : List Link → ℕ → ℕ
number_at [] at = 0
number_at (l ∷ ls) zero = l.number
number_at (l ∷ ls) (suc at) = number_at ls at

abbrev pub conn_at : List Link → ℕ → ℕ
conn_at [] at = 0
conn_at (l ∷ ls) zero = l.conn
conn_at (l ∷ ls) (suc at) = conn_at ls at

-- how many bytes the links hold of messages that are not whole or not taken yet
abbrev pub held : List Link → ℕ
held [] = 0
held (l ∷ ls) = length l.feeder + held ls

-- without a link
abbrev pub without_seat : ℕ → List (ℕ × ℕ) → List (ℕ × ℕ)
without_seat k [] = []
without_seat k (s ∷ ss) = if s.0 == k then without_seat k ss else s ∷ without_seat k ss

abbrev pub left_by : List (ℕ × ℕ) → Call → List (ℕ × ℕ)
left_by ss (Listen path did) = ss
left_by ss (Accept did) = ss
left_by ss (Connect path did) = ss
left_by ss (Read k bytes did) = ss
left_by ss (Write k bytes did) = ss
left_by ss (Close k) = without_seat k ss

-- what calls leave of them
abbrev pub left : List (ℕ × ℕ) → List Call → List (ℕ × ℕ)
left ss [] = ss
left ss (c ∷ cs) = left (left_by ss c) cs

-- the links whose turn is to come: those of connections from this one on
abbrev pub due : ℕ → List (ℕ × ℕ) → List ℕ
due from [] = []
due from (s ∷ ss) = if leb from s.1 then s.0 ∷ due from ss else due from ss

-- each connection is above those before it
abbrev pub AreAbove : ℕ → List (ℕ × ℕ) → Type 0
AreAbove c [] = ⊤
AreAbove c (s ∷ ss) = (c < s.1) × AreAbove c ss

abbrev pub Rise : List (ℕ × ℕ) → Type 0
Rise [] = ⊤
Rise (s ∷ ss) = AreAbove s.1 ss × Rise ss

-- the links are those that the calls leave open
abbrev pub Stands : List Link → List Call → Type 0
Stands links cs = (open_behind cs ≡ numbers_of (seats links)) × Rise (seats links)

-- a bus and its links, which are those that the calls leave open
abbrev pub GoesOpen : Bus → List Link → Course → List Call → Type 0
GoesOpen b links x cs = Goes b links x cs × Stands links cs

-- the links are those that the calls leave, where the bus did not stop
abbrev pub AreLeft : Bool → List Link → List Link → List Call → Type 0
AreLeft true old new calls = seats new ≡ left (seats old) calls
AreLeft false old new calls = ⊤

-- one read of a link, and what is known of it behind
abbrev pub HasRead : ℕ → Bool → Link → Link → List Call → List Call → Type 0
HasRead k goes_on old new past calls =
    (bytes : List ℕ) × (did : Did) × (length bytes ≤ 4096) × (calls ≡ Read k bytes did ∷ [])
    × ((took : List Envelope) (handed g : List ℕ) → Converses took handed old (taken k past) g
    → Remains goes_on did took handed new (taken k past ++ bytes) g)

-- the same where memory was wanting for what it sent
abbrev pub HasReadOnly : ℕ → Link → List Call → List Call → Type 0
HasReadOnly k old past calls =
    (bytes : List ℕ) × (did : Did) × (length bytes ≤ 4096) × (calls ≡ Read k bytes did ∷ [])
    × ((took : List Envelope) (handed g : List ℕ) → Converses took handed old (taken k past) g
    → IsSpeech took handed (taken k past ++ bytes) g)

-- what was given of these bytes and what waits then begin with them
abbrev pub Waited : List ℕ → Did → Link → Type 0
Waited bytes did l = (rest : List ℕ) × (front did bytes ++ l.out.items ≡ bytes ++ rest)

-- no write, where nothing waits on the link, or one of the bytes that waited first, which failed only where the link
-- does not go on
abbrev pub HasSent : ℕ → Bool → queues.Bus → Link → List Call → List Call → Type 0
HasSent k true b l past calls =
    ((calls ≡ []) × (l.out.items ≡ []) × IsSilent b l)
    ⊎ ((bytes : List ℕ) × (did : Did) × (0 < length bytes) × (length bytes ≤ 4096) × Waited bytes did l × GoesOn did
    × (calls ≡ Write k bytes did ∷ []))
HasSent k false b l past calls = (bytes : List ℕ) × (0 < length bytes) × (length bytes ≤ 4096) × Waited bytes Failed l
    × (calls ≡ Write k bytes Failed ∷ [])

-- one accept, behind which the bus goes on
abbrev pub HasAccepted : Course → List Call → List Call → Course → Type 0
HasAccepted x past calls y = (did : Did) × Accepts did x y × (calls ≡ Accept did ∷ [])

-- the link of a connection is closed, if it stands
abbrev pub Dismisses : ℕ → List Link → List Link → Course → List Call → List Call → Course → Type 0
Dismisses c old new x past calls y = (y ≡ x) × IsShut x.conn (numbers_of (seats old)) c calls
    × (seats new ≡ left (seats old) calls)

-- the first of a bus's closings were told
abbrev pub Settling : List Link → List Link → Course → List Call → List Call → Course → Type 0
Settling old new x past calls y =
    (closings : List Closing) × (tells : List Asked) × AreTellings tells × Runs x.bus tells y.bus
    × (y.asked ≡ x.asked ++ tells) × (y.conn ≡ x.conn)
    × (x.bus.closings ≡ closings ++ y.bus.closings) × AreShut x.conn (numbers_of (seats old)) closings calls
    × (seats new ≡ left (seats old) calls)

-- all that a bus had to tell was told
abbrev pub Settles : List Link → List Link → Course → List Call → List Call → Course → Type 0
Settles old new x past calls y =
    (tells : List Asked) × AreTellings tells × (y.asked ≡ x.asked ++ tells) × (y.bus ≡ told_all x.bus)
    × (y.conn ≡ x.conn)
    × AreShut x.conn (numbers_of (seats old)) x.bus.closings calls × (seats new ≡ left (seats old) calls)

-- the close of a link, and then of those that its leaving brings to close
abbrev pub Leaves : Bool → ℕ → ℕ → List Link → List Link → Course → List Call → List Call → Course → Type 0
Leaves whole k c old new x past calls y = Parts whole k c x (numbers_of (seats old)) calls y
    × AreLeft whole old new calls

-- the bus took one message of a link
abbrev pub TakesOne : ℕ → List Link → List Link → Course → List Call → List Call → Course → Type 0
TakesOne k old new x past calls y =
    (seats new ≡ left (seats old) calls) × (y.conn ≡ x.conn)
    × ((c : ℕ) → x.conn k ≡ Some c
    → (e : Envelope) × (closings : List Closing) × IsOpen k (numbers_of (seats old)) × Steps x (taking c e) closings y
    × AreShut x.conn (numbers_of (seats old)) closings calls)

-- it took no further one
abbrev pub TakesNone : Bool → ℕ → List Link → List Link → Course → List Call → List Call → Course → Type 0
TakesNone whole k old new x past calls y = AreLeft whole old new calls
    × ((c : ℕ) → x.conn k ≡ Some c → Follows whole k c x (numbers_of (seats old)) (taken k past) calls y)

abbrev pub MayTake : Bool → ℕ → List Link → List Link → Course → List Call → List Call → Course → Type 0
MayTake true k old new x past calls y = TakesOne k old new x past calls y
MayTake false k old new x past calls y = TakesNone true k old new x past calls y

-- it took some
abbrev pub TakesSome : ℕ → List Link → List Link → Course → List Call → List Call → Course → Type 0
TakesSome k old new x past calls y =
    (seats new ≡ left (seats old) calls) × (y.conn ≡ x.conn)
    × ((c : ℕ) → x.conn k ≡ Some c → (es : List Envelope) × AreTaken k c x (numbers_of (seats old)) es calls y)

-- it took all
abbrev pub TakesAll : Bool → ℕ → List Link → List Link → Course → List Call → List Call → Course → Type 0
TakesAll whole k old new x past calls y = AreLeft whole old new calls
    × ((c : ℕ) → x.conn k ≡ Some c → Attends whole k c x (numbers_of (seats old)) (taken k past) calls y)

-- a read of a link, and closes
abbrev pub Hears : Bool → ℕ → ℕ → List Link → List Link → Course → List Call → List Call → Course → Type 0
Hears whole k c old new x past calls y = AreLeft whole old new calls
    × IsHeard whole x past (numbers_of (seats old)) k c calls y

-- a write exactly where not all that waits was given
abbrev pub Writes : Bool → ℕ → List Link → List Link → Course → List Call → List Call → Course → Type 0
Writes whole k old new x past calls y = AreLeft whole old new calls
    × ((c : ℕ) → x.conn k ≡ Some c → MayGive whole x past (numbers_of (seats old)) k c calls y)

-- a read and then maybe a write, the second of them whole or not
abbrev pub BothDo : Bool → ℕ → ℕ → List Link → Course → List Call → List Call → Course → Type 0
BothDo whole k c old x past calls y =
    (mid : Course) × (read : List Call) × (gift : List Call) × IsHeard true x past (numbers_of (seats old)) k c read mid
    × MayGive whole mid (past ++ read) (numbers_of (left (seats old) read)) k c gift y × (calls ≡ read ++ gift)

-- the turn of a link
abbrev pub Takes : ℕ → List Link → List Link → Course → List Call → List Call → Course → Type 0
Takes k old new x past calls y = (seats new ≡ left (seats old) calls) × (c : ℕ) × (x.conn k ≡ Some c)
    × BothDo true k c old x past calls y

-- one that was broken off
abbrev pub TakesCut : ℕ → List Link → Course → List Call → List Call → Course → Type 0
TakesCut k old x past calls y = (c : ℕ) × (x.conn k ≡ Some c)
    × (IsHeard false x past (numbers_of (seats old)) k c calls y ⊎ BothDo false k c old x past calls y)
