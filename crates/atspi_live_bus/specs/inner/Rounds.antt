-- Words that only the private contracts and proofs beside `Rounds` use.
use Rattle.std.specs.Prelude.{◌≡◌, List, ◌∷◌, ◌++◌, []}
use Rattle.std.specs.Prelude.{Option, None, Some, ⊤}
use Rattle.atspi_live_host.specs.declared.call.Did.{Did}
use Rattle.atspi_live_host.specs.declared.call.Did.TheVariants.{Done, NotYet, End, Failed}
use Rattle.atspi_live_host.specs.declared.call.Call.{Call}
use Rattle.atspi_live_host.specs.declared.call.Call.TheVariants.{Listen, Accept, Connect, Read, Write, Close}
use Rattle.atspi_live_bus.specs.Course.{Course}
use Rattle.atspi_live_bus.specs.declared.stop.Stop.{Stop}
use Rattle.atspi_live_bus.specs.declared.stop.Stop.TheVariants as stops

-- the bus goes on behind such an answer of an accept, and with a link behind such an answer of a call for it
abbrev pub GoesOn : Did → Type 0
GoesOn (Done n) = ⊤
GoesOn NotYet = ⊤
GoesOn End = ⊥
GoesOn Failed = ⊥

-- closes of links alone
abbrev pub IsClose : Call → Type 0
IsClose (Listen path did) = ⊥
IsClose (Accept did) = ⊥
IsClose (Connect path did) = ⊥
IsClose (Read k bytes did) = ⊥
IsClose (Write k bytes did) = ⊥
IsClose (Close k) = ⊤

abbrev pub AreCloses : List Call → Type 0
AreCloses [] = ⊤
AreCloses (c ∷ cs) = IsClose c × AreCloses cs

-- Wherever a bus stands before with its links, such calls lead it to where it stands then, and the host tells them
-- behind those before; or it tells no more.
abbrev pub Moves : Option (List Call) → Option (List Call) → (Course → List Call → Type 0)
    → (Course → List Call → List Call → Course → Type 0) → (Course → List Call → Type 0) → Type 0
Moves old None S P T = ⊤
Moves None (Some ds) S P T = ⊥
Moves (Some past) (Some ds) S P T = (x : Course) → S x past
    → (y : Course) × (calls : List Call) × P x past calls y × T y ds × (ds ≡ past ++ calls)

-- what a host tells afterwards is what it told before, and then such calls; or it tells no more
abbrev pub Does : Option (List Call) → Option (List Call) → (List Call → List Call → Type 0) → Type 0
Does old None P = ⊤
Does None (Some ds) P = ⊥
Does (Some past) (Some ds) P = (calls : List Call) × P past calls × (ds ≡ past ++ calls)
