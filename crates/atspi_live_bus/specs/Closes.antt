-- Which links the bus closes, and why.
use Rattle.std.specs.Prelude.{◌≡◌, ◌⊎◌, ℕ, Bool, true, false, List, [], ◌∷◌, ◌++◌, Option, Some}
use Rattle.atspi_auth.specs.Talk.{after, behind, fault_in, server_start}
use Rattle.atspi_auth.specs.declared.fault.AuthFault.{AuthFault}
use Rattle.atspi_message.specs.Envelope.{Envelope}
use Rattle.atspi_stream.specs.Stream.{AwaitsMore, HasFault, IsParted}
use Rattle.atspi_match.specs.declared.routing.closing.Closing.{Closing}
use Rattle.atspi_live_host.specs.declared.call.Did.{Did}
use Rattle.atspi_live_host.specs.declared.call.Did.TheVariants.{Done, NotYet, End, Failed}
use Rattle.atspi_live_host.specs.declared.call.Call.{Call}
use Rattle.atspi_live_host.specs.declared.call.Call.TheVariants.{Close}
use Rattle.atspi_live_host.specs.Calls.{IsOpen, without}
use Rattle.atspi_live_bus.specs.Asked.{taking, leaving, messages_of}
use Rattle.atspi_live_bus.specs.Course.{Course, Steps}
use Rattle.atspi_live_bus.specs.Opened.{open_from}
use Rattle.atspi_live_bus.specs.Service.{envelopes}

-- the close of the link of a connection, if it is among the open ones
abbrev pub IsShut : (ℕ → Option ℕ) → List ℕ → ℕ → List Call → Type 0
IsShut conn links c calls =
    (((k : ℕ) → IsOpen k links → conn k ≡ Some c → ⊥) × (calls ≡ []))
    ⊎ ((k : ℕ) × IsOpen k links × (conn k ≡ Some c) × (calls ≡ Close k ∷ []))

-- The closes of the links of all connections that the bus closed, in the order in which it told them.
abbrev pub AreShut : (ℕ → Option ℕ) → List ℕ → List Closing → List Call → Type 0
AreShut conn links [] calls = calls ≡ []
AreShut conn links (c ∷ cs) calls =
    (first : List Call) × (rest : List Call) × IsShut conn links c.conn first
    × AreShut conn (open_from links first) cs rest × (calls ≡ first ++ rest)

-- The bus takes these messages of a link, each while the link is open, and behind each stand the closes that it brings.
abbrev pub AreTaken : ℕ → ℕ → Course → List ℕ → List Envelope → List Call → Course → Type 0
AreTaken k c x links [] calls y = (calls ≡ []) × (y ≡ x)
AreTaken k c x links (e ∷ es) calls y =
    IsOpen k links × (mid : Course) × (closings : List Closing) × (first : List Call) × (rest : List Call)
    × Steps x (taking c e) closings mid × AreShut x.conn links closings first
    × AreTaken k c mid (open_from links first) es rest y × (calls ≡ first ++ rest)

-- A link is closed and its connection leaves the bus, and behind it stand the closes that the leaving brings. Or the
-- bus stopped before it left.
abbrev pub Parts : Bool → ℕ → ℕ → Course → List ℕ → List Call → Course → Type 0
Parts true k c x links calls y =
    (closings : List Closing) × (rest : List Call) × Steps x (leaving c) closings y
    × AreShut x.conn (without k links) closings rest × (calls ≡ Close k ∷ rest)
Parts false k c x links calls y = (calls ≡ Close k ∷ []) × (y ≡ x)

-- the link has ended or failed, or what it sent is at fault before its messages: in its lines of authentication
abbrev pub IsLost : Did → List ℕ → Type 0
IsLost did t = (did ≡ End)
    ⊎ ((did ≡ Failed) ⊎ ((fault : AuthFault) × (fault_in (after server_start t).stage ≡ Some fault)))

-- what stands behind the messages that were taken, of the bytes behind the lines
abbrev pub IsRest : List ℕ → List Envelope → List ℕ → Type 0
IsRest t took rest = (messages : List (Envelope × List ℕ)) × IsParted (behind server_start t) messages rest
    × (took ≡ envelopes messages)

-- the next message is malformed
abbrev pub IsBad : List ℕ → Type 0
IsBad rest = (place : ℕ) × (reason : ℕ) × HasFault rest place reason

-- What comes behind the messages that were taken of a link, where these bytes are left: nothing where they closed it,
-- or where no further message is whole; and where the next is bad, the link's own close. Or the bus stopped there.
abbrev pub Ceases : Bool → ℕ → ℕ → Course → List ℕ → List ℕ → List Call → Course → Type 0
Ceases true k c x links rest calls y =
    ((IsOpen k links → ⊥) × (calls ≡ []) × (y ≡ x))
    ⊎ ((IsOpen k links × AwaitsMore rest × (calls ≡ []) × (y ≡ x))
    ⊎ (IsOpen k links × IsBad rest × Parts true k c x links calls y))
Ceases false k c x links rest calls y = ((calls ≡ []) × (y ≡ x))
    ⊎ (IsOpen k links × IsBad rest × Parts false k c x links calls y)

-- the messages that the bus took of it are the first of what it sent, and this comes behind them
abbrev pub Follows : Bool → ℕ → ℕ → Course → List ℕ → List ℕ → List Call → Course → Type 0
Follows whole k c x links t calls y = (rest : List ℕ) × IsRest t (messages_of c x.asked) rest
    × Ceases whole k c x links rest calls y

-- The closes of what a link sent, all of it or up to where the bus stopped.
abbrev pub Attends : Bool → ℕ → ℕ → Course → List ℕ → List ℕ → List Call → Course → Type 0
Attends whole k c x links t calls y =
    (es : List Envelope) × (mid : Course) × (first : List Call) × (last : List Call) × AreTaken k c x links es first mid
    × Follows whole k c mid (open_from links first) t last y × (calls ≡ first ++ last)

-- The closes directly behind a read, where these bytes were taken from the link with it: its own where it is lost, and
-- else those of what it sent. None else.
abbrev pub FollowsRead : Bool → ℕ → ℕ → Course → List ℕ → Did → List ℕ → List Call → Course → Type 0
FollowsRead true k c x links did t calls y = (IsLost did t × Parts true k c x links calls y)
    ⊎ ((IsLost did t → ⊥) × Attends true k c x links t calls y)
FollowsRead false k c x links did t calls y =
    ((calls ≡ []) × (y ≡ x))
    ⊎ ((IsLost did t × Parts false k c x links calls y)
    ⊎ ((IsLost did t → ⊥) × Attends false k c x links t calls y))

-- The closes directly behind a write: none but where it failed.
abbrev pub FollowsWrite : Bool → ℕ → ℕ → Course → List ℕ → Did → List Call → Course → Type 0
FollowsWrite whole k c x links (Done n) calls y = (calls ≡ []) × (y ≡ x)
FollowsWrite whole k c x links NotYet calls y = (calls ≡ []) × (y ≡ x)
FollowsWrite whole k c x links End calls y = ⊥
FollowsWrite whole k c x links Failed calls y = Parts whole k c x links calls y
