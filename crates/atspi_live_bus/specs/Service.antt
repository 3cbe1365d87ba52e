-- What a bus gives on the links of a host.
use Rattle.std.specs.Prelude.{◌≡◌, ◌⊎◌, ℕ, List, [], ◌++◌, map, flat_map, Option, None, Some, ⊤}
use Rattle.atspi_auth.specs.Said.{bytes_of}
use Rattle.atspi_auth.specs.Talk.{after, behind, server_start}
use Rattle.atspi_auth.specs.declared.said.AuthLine.{AuthLine}
use Rattle.atspi_auth.specs.declared.stage.Stage.TheVariants.{Over}
use Rattle.atspi_message.specs.Envelope.{Envelope}
use Rattle.atspi_stream.specs.Stream.{IsParted}
use Rattle.atspi_match.specs.routing.Queues.{empty_bus}
use Rattle.atspi_match.specs.routing.Queues as queues
use Rattle.atspi_live_host.specs.declared.call.Call.{Call}
use Rattle.atspi_live_host.specs.Calls.{taken, given}
use Rattle.atspi_live_bus.specs.Asked.{Asked, Runs, Spends, messages_of, handed_to}
use Rattle.atspi_live_bus.specs.declared.stop.Stop.{Stop}
use Rattle.atspi_live_bus.specs.declared.stop.Stop.TheVariants as stops

-- the lines that a server says for these bytes
abbrev pub lines_for : List ℕ → List AuthLine
lines_for bytes = (after server_start bytes).unsent

-- their bytes
abbrev pub line_bytes : List AuthLine → List ℕ
line_bytes lines = flat_map bytes_of lines

-- the messages without their bytes
abbrev pub envelopes : List (Envelope × List ℕ) → List Envelope
envelopes messages = map (λ (m : Envelope × List ℕ). m.0) messages

-- What was given is a front of the lines of authentication for the bytes that were taken and, once these are over, of
-- what was handed out for the connection. Of that connection the messages were taken that stand at the front of the
-- bytes behind the lines.
pub record IsSpeech (took : List Envelope) (handed t g : List ℕ) : Type 0 where
  pub messages : List (Envelope × List ℕ)
  pub rest : List ℕ
  pub parted : IsParted (behind server_start t) messages rest
  pub taken_all : took ≡ envelopes messages
  pub over : (handed ≡ []) ⊎ ((after server_start t).stage ≡ Over)
  pub more : List ℕ
  pub front : g ++ more ≡ line_bytes (lines_for t) ++ handed

-- the same of a link with its connection; on one without nothing passed
abbrev pub IsSaid : List Asked → Option ℕ → List ℕ → List ℕ → Type 0
IsSaid asked None t g = (t ≡ []) × (g ≡ [])
IsSaid asked (Some c) t g = IsSpeech (messages_of c asked) (handed_to c asked) t g

-- no two links have one connection
abbrev pub AreApart : (ℕ → Option ℕ) → Type 0
AreApart conn = (j k c : ℕ) → conn j ≡ Some c → conn k ≡ Some c → j ≡ k

-- The calls of a host are those of a bus with a quota of 16,777,216 bytes: what passed on each link is what was asked
-- of that bus for the link's connection.
pub record IsService (cs : List Call) : Type 0 where
  pub asked : List Asked
  pub bus : queues.Bus
  pub run : Runs (empty_bus 16777216) asked bus
  pub conn : ℕ → Option ℕ
  pub apart : AreApart conn
  pub said : (k : ℕ) → IsSaid asked (conn k) (taken k cs) (given k cs)

-- and by the next step that bus is spent
pub record HasSpent (cs : List Call) : Type 0 where
  pub service : IsService cs
  pub spends : Spends service.bus

-- the calls of a host up to where the bus stopped
abbrev pub IsStopped : Stop → List Call → Type 0
IsStopped stops.HostFailed cs = IsService cs
IsStopped stops.Spent cs = HasSpent cs
IsStopped stops.NoMemory cs = IsService cs

-- no call was made yet
abbrev pub HasNoCall : List Call → Type 0
HasNoCall cs = cs ≡ []

-- where the host tells its calls, this holds of them
abbrev pub OfTold : (List Call → Type 0) → Option (List Call) → Type 0
OfTold P None = ⊤
OfTold P (Some cs) = P cs
