-- What calls of a host moved on a link.
use Rattle.std.specs.Prelude.{◌≡◌, ℕ, ◌==◌, List, ◌∷◌, ◌++◌, Option, None, Some, ⊤, if◌then◌else◌, []}
use Rattle.atspi_live_host.specs.declared.call.Did.{Did}
use Rattle.atspi_live_host.specs.declared.call.Did.TheVariants.{Done, NotYet, End, Failed}
use Rattle.atspi_live_host.specs.declared.call.Call.{Call}
use Rattle.atspi_live_host.specs.declared.call.Call.TheVariants.{Listen, Accept, Connect, Read, Write, Close}
use Rattle.atspi_live_host.specs.Calls.{IsFront, taken, given}

-- the answers of the reads of a link
abbrev pub answer_of_read : ℕ → Call → List Did
answer_of_read k (Listen path did) = []
answer_of_read k (Accept did) = []
answer_of_read k (Connect path did) = []
answer_of_read k (Read link bytes did) = if link == k then did ∷ [] else []
answer_of_read k (Write link bytes did) = []
answer_of_read k (Close link) = []

abbrev pub reads : ℕ → List Call → List Did
reads k [] = []
reads k (c ∷ cs) = answer_of_read k c ++ reads k cs

-- the run can go on behind such an answer of a read
abbrev pub GoesOn : Did → Type 0
GoesOn (Done n) = ⊤
GoesOn NotYet = ⊤
GoesOn End = ⊥
GoesOn Failed = ⊥

abbrev pub AllGoOn : List Did → Type 0
AllGoOn [] = ⊤
AllGoOn (did ∷ dids) = GoesOn did × AllGoOn dids

-- where the host tells its calls: what was taken of the link and given on it, and the answers of its reads
abbrev pub Tells : ℕ → Option (List Call) → List ℕ → List ℕ → List Did → Type 0
Tells k None t g dids = ⊤
Tells k (Some cs) t g dids = (taken k cs ≡ t) × (given k cs ≡ g) × (reads k cs ≡ dids)

-- what was taken of a link stands, and more may stand behind it
abbrev pub Grows : ℕ → Option (List Call) → Option (List Call) → Type 0
Grows k old None = ⊤
Grows k None (Some cs) = ⊥
Grows k (Some cs) (Some ds) = IsFront (taken k cs) (taken k ds)
