-- A bus in its course, step by step.
use Rattle.std.specs.Prelude.{◌≡◌, ℕ, List, [], ◌∷◌, ◌++◌, Option, None, Some, ⊤}
use Rattle.atspi_match.specs.declared.routing.closing.Closing.{Closing}
use Rattle.atspi_match.specs.routing.Queues.{empty_bus, joins}
use Rattle.atspi_match.specs.routing.Queues as queues
use Rattle.atspi_live_host.specs.declared.call.Did.{Did}
use Rattle.atspi_live_host.specs.declared.call.Did.TheVariants.{Done, NotYet, End, Failed}
use Rattle.atspi_live_host.specs.declared.call.Call.{Call}
use Rattle.atspi_live_host.specs.Calls.{taken, given}
use Rattle.atspi_live_bus.specs.Asked.{Asked, joining, taking, leaving, popping, telling, Leads, Runs}
use Rattle.atspi_live_bus.specs.Service.{AreApart, IsSaid}

-- What was asked of a bus so far, where that led it, and the connection of each link.
pub record Course : Type 0 where
  pub asked : List Asked
  pub bus : queues.Bus
  pub conn : ℕ → Option ℕ

-- a bus with a quota of 16,777,216 bytes, before the first link
abbrev pub start : Course
start = record { asked = []; bus = empty_bus 16777216; conn = λ k. None }

-- The calls of a host are those of this bus: what passed on each link is what was asked of it for the link's
-- connection.
pub record IsCourse (x : Course) (cs : List Call) : Type 0 where
  pub run : Runs (empty_bus 16777216) x.asked x.bus
  pub apart : AreApart x.conn
  pub said : (k : ℕ) → IsSaid x.asked (x.conn k) (taken k cs) (given k cs)

-- An accept: a link that is given joins the bus at once, as a connection that no link had.
abbrev pub Accepts : Did → Course → Course → Type 0
Accepts (Done k) x y =
    (c : ℕ) × ((j : ℕ) → x.conn j ≡ Some c → ⊥) × (y.asked ≡ x.asked ++ joining c ∷ []) × (y.bus ≡ joins x.bus c)
    × (y.conn k ≡ Some c) × ((j : ℕ) → (j ≡ k → ⊥) → y.conn j ≡ x.conn j)
Accepts NotYet x y = y ≡ x
Accepts End x y = ⊥
Accepts Failed x y = ⊥

-- asked for what it has to tell alone
abbrev pub IsTelling : Asked → Type 0
IsTelling (joining c) = ⊥
IsTelling (taking c e) = ⊥
IsTelling (leaving c) = ⊥
IsTelling (popping c bytes) = ⊥
IsTelling telling = ⊤

abbrev pub AreTellings : List Asked → Type 0
AreTellings [] = ⊤
AreTellings (a ∷ asks) = IsTelling a × AreTellings asks

-- it has told all: nothing of its own messages and of its closings is left
abbrev pub told_all : queues.Bus → queues.Bus
told_all b = record b { own = []; closings = [] }

-- The bus did one thing, and then told all that it had to tell: these were its closings.
abbrev pub Steps : Course → Asked → List Closing → Course → Type 0
Steps x ask closings y =
    (b : queues.Bus) × (tells : List Asked) × Leads x.bus ask b × AreTellings tells × (closings ≡ b.closings)
    × (y.asked ≡ x.asked ++ ask ∷ tells) × (y.bus ≡ told_all b) × (y.conn ≡ x.conn)

-- bytes were handed out for a connection alone
abbrev pub IsHanding : ℕ → Asked → Type 0
IsHanding c (joining d) = ⊥
IsHanding c (taking d e) = ⊥
IsHanding c (leaving d) = ⊥
IsHanding c (popping d bytes) = d ≡ c
IsHanding c telling = ⊥

abbrev pub AreHandings : ℕ → List Asked → Type 0
AreHandings c [] = ⊤
AreHandings c (a ∷ asks) = IsHanding c a × AreHandings c asks

-- The bus handed out bytes for a connection, and did nothing else.
abbrev pub HandsOut : ℕ → Course → Course → Type 0
HandsOut c x y = (asks : List Asked) × AreHandings c asks × Runs x.bus asks y.bus × (y.asked ≡ x.asked ++ asks)
    × (y.conn ≡ x.conn)
