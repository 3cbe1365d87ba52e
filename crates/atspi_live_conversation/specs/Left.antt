-- How an end stands where a run of it is over: which messages it took, and what stands behind them.
use Rattle.std.specs.Prelude.{◌≡◌, ℕ, List, [], ◌++◌, length, Option, None, Some, ⊤}
use Rattle.atspi_auth.specs.Talk.{behind, client_start}
use Rattle.atspi_message.specs.Envelope.{Envelope}
use Rattle.atspi_message.specs.Bytes.{IsMessage}
use Rattle.atspi_stream.specs.Stream.{AwaitsMore, HasFault, IsParted}
use Rattle.atspi_stream.specs.Stream as stream
use Rattle.atspi_live_host.specs.declared.call.Call.{Call}
use Rattle.atspi_live_host.specs.Calls.{taken}
use Rattle.atspi_live_conversation.specs.Speech.{envelopes}
use Rattle.atspi_live_conversation.specs.declared.ending.Ending.{Ending}
use Rattle.atspi_live_conversation.specs.declared.ending.Ending.TheVariants as endings

-- where the host tells its calls, these bytes were taken of the link
abbrev pub IsTaken : ℕ → Option (List Call) → List ℕ → Type 0
IsTaken k None t = ⊤
IsTaken k (Some cs) t = taken k cs ≡ t

-- a message stands there for which an end that took and said these would pass the last number
pub record HasSpent {E : Type 0} (Stands : E → List Envelope → List Envelope → Type 0) (IsSpent : E → Envelope → Type 0)
    (took said : List Envelope) (rest : List ℕ) : Type 0 where
  pub message : Envelope
  pub bytes : List ℕ
  pub more : List ℕ
  pub is : IsMessage message bytes
  pub front : rest ≡ bytes ++ more
  pub end : E
  pub stands : Stands end took said
  pub spent : IsSpent end message

-- What stands behind the messages that an end took, by why the run was over: one at fault, one for which its own would
-- pass the last number; where lines of authentication were at fault, nothing, and it took none; or else no whole one.
abbrev pub StopsAt : {E : Type 0} → (E → List Envelope → List Envelope → Type 0) → (E → Envelope → Type 0) → Ending
    → List (Envelope × List ℕ) → List Envelope → List ℕ → Type 0
StopsAt Stands IsSpent (endings.Malformed start fault) messages said rest = HasFault rest fault.place fault.reason
    × (start ≡ length (stream.bytes_of messages))
StopsAt Stands IsSpent endings.Spent messages said rest = HasSpent Stands IsSpent (envelopes messages) said rest
StopsAt Stands IsSpent endings.NotAuthenticated messages said rest = (messages ≡ []) × (rest ≡ [])
StopsAt Stands IsSpent ending messages said rest = AwaitsMore rest

-- an end that took all messages at the front of the bytes taken, up to what ended the run
pub record LeftOff {E : Type 0} (Stands : E → List Envelope → List Envelope → Type 0) (IsSpent : E → Envelope → Type 0)
    (ending : Ending) (t : List ℕ) (end : E) : Type 0 where
  pub messages : List (Envelope × List ℕ)
  pub rest : List ℕ
  pub parted : IsParted (behind client_start t) messages rest
  pub said : List Envelope
  pub stands : Stands end (envelopes messages) said
  pub stops : StopsAt Stands IsSpent ending messages said rest

-- nothing is said of an end after want of memory
abbrev pub LeavesOff : {E : Type 0} → (E → List Envelope → List Envelope → Type 0) → (E → Envelope → Type 0) → Ending
    → List ℕ → E → Type 0
LeavesOff Stands IsSpent endings.NoMemory t end = ⊤
LeavesOff Stands IsSpent ending t end = LeftOff Stands IsSpent ending t end

-- the same of a run on a link
abbrev pub IsLeft : {E : Type 0} → (E → List Envelope → List Envelope → Type 0) → (E → Envelope → Type 0) → ℕ → Ending
    → Option (List Call) → E → Type 0
IsLeft Stands IsSpent k ending calls end = (t : List ℕ) × IsTaken k calls t × LeavesOff Stands IsSpent ending t end
