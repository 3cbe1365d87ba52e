-- A bus with its links between two calls, and what a call does for one link.
use Rattle.std.specs.Prelude.{◌≡◌, ◌⊎◌, ◌<◌, ◌+◌, ℕ, List, ◌∷◌, ◌++◌, length, None, []}
use Rattle.atspi_auth.specs.Talk.{Stands, behind, fault_in, server_start}
use Rattle.atspi_auth.specs.declared.said.AuthLine.{AuthLine}
use Rattle.atspi_auth.specs.declared.stage.Stage.TheVariants.{Over}
use Rattle.atspi_message.specs.Envelope.{Envelope}
use Rattle.atspi_stream.specs.Stream.{AwaitsMore, IsParted}
use Rattle.atspi_match.specs.routing.Queues as queues
use Rattle.atspi_bus.specs.declared.bus.Bus.{Bus}
use Rattle.atspi_live_host.specs.declared.call.Call.{Call}
use Rattle.atspi_live_bus.specs.Asked.{taking, Leads, Spends}
use Rattle.atspi_live_bus.specs.Closes.{IsBad}
use Rattle.atspi_live_bus.specs.Course.{Course, IsCourse}
use Rattle.atspi_live_bus.specs.Service.{envelopes, line_bytes}
use Rattle.atspi_live_bus.specs.declared.link.Link.{Link}
use Rattle.atspi_live_bus.specs.declared.link.Next.{Next}
use Rattle.atspi_live_bus.specs.declared.link.Next.TheVariants as next
use Rattle.atspi_live_bus.specs.declared.stop.Stop.{Stop}
use Rattle.atspi_live_bus.specs.declared.stop.Stop.TheVariants as stops

-- What was heard and said on an open link, where these bytes were taken and those given: the lines that were said, and
-- the messages that were told the bus. Nothing of the bus's is said before the lines are over.
pub record Converses (took : List Envelope) (handed : List ℕ) (l : Link) (t g : List ℕ) : Type 0 where
  pub lines : List AuthLine
  pub messages : List (Envelope × List ℕ)
  pub server_stands : Stands server_start t lines l.server
  pub parted : IsParted (behind server_start t) messages l.feeder
  pub taken_all : took ≡ envelopes messages
  pub all : g ++ l.out.items ≡ line_bytes lines ++ handed
  pub order : (handed ≡ []) ⊎ ((l.server.stage ≡ Over) × (l.server.unsent ≡ []))
  pub no_fault : fault_in l.server.stage ≡ None

-- where a bus stops its course fits the calls up to there; and by the next step it is spent, where it stops for that
abbrev pub StopsAt : Stop → Course → List Call → Type 0
StopsAt stop x cs = IsCourse x cs × (stop ≡ stops.Spent → Spends x.bus)

-- what a link told the bus
abbrev pub Tells : Next → Link → Link → queues.Bus → queues.Bus → Type 0
Tells next.Took old new b b' =
    (e : Envelope) × Leads b (taking old.conn e) b'
    × ((took : List Envelope) (handed t g : List ℕ) → Converses took handed old t g
    → Converses (took ++ e ∷ []) handed new t g)
    × (length new.feeder < length old.feeder)
Tells next.NotYet old new b b' = (b' ≡ b)
    × ((took : List Envelope) (handed t g : List ℕ) → Converses took handed old t g → Converses took handed new t g)
    × AwaitsMore old.feeder
Tells next.Bad old new b b' = (b' ≡ b) × IsBad old.feeder
