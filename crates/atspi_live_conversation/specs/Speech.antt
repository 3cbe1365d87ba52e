-- What an end says on its link for the bytes that it takes there: the lines of its authentication, and behind them its
-- messages.
use Rattle.std.specs.Prelude.{◌≡◌, ◌⊎◌, ℕ, List, [], ◌∷◌, ◌++◌, length, map, flat_map, Option, None, Some, ⊤}
use Rattle.atspi_auth.specs.Talk.{after, behind, client_start, fault_in}
use Rattle.atspi_auth.specs.Said.{bytes_of}
use Rattle.atspi_auth.specs.declared.said.AuthLine.{AuthLine}
use Rattle.atspi_auth.specs.declared.stage.Stage.TheVariants.{Over}
use Rattle.atspi_message.specs.Envelope.{Envelope}
use Rattle.atspi_message.specs.Bytes.{IsMessage}
use Rattle.atspi_stream.specs.Stream.{AwaitsMore, HasFault, IsParted}
use Rattle.atspi_stream.specs.Stream as stream
use Rattle.atspi_live_host.specs.declared.call.Call.{Call}
use Rattle.atspi_live_host.specs.declared.call.Did.TheVariants.{End}
use Rattle.atspi_live_host.specs.Calls.{taken, given}
use Rattle.atspi_live_conversation.specs.Sent.{AreSent}
use Rattle.atspi_live_conversation.specs.Moved.{reads, AllGoOn}
use Rattle.atspi_live_conversation.specs.declared.ending.Ending.{Ending}
use Rattle.atspi_live_conversation.specs.declared.ending.Ending.TheVariants as endings

-- the lines that a client says for these bytes
abbrev pub lines_for : List ℕ → List AuthLine
lines_for bytes = (after client_start bytes).unsent

-- their bytes
abbrev pub line_bytes : List AuthLine → List ℕ
line_bytes lines = flat_map bytes_of lines

-- the messages without their bytes
abbrev pub envelopes : List (Envelope × List ℕ) → List Envelope
envelopes messages = map (λ (m : Envelope × List ℕ). m.0) messages

-- What was given is a front of the authentication's lines for the bytes that were taken and, once these are over, of
-- what the end then sends: it took the messages that stand at the front of the bytes behind the lines.
pub record IsSpeech {E : Type 0} (Stands : E → List Envelope → List Envelope → Type 0) (t g : List ℕ) : Type 0 where
  pub messages : List (Envelope × List ℕ)
  pub rest : List ℕ
  pub parted : IsParted (behind client_start t) messages rest
  pub end : E
  pub said : List Envelope
  pub stands : Stands end (envelopes messages) said
  pub sent : List ℕ
  pub spelled : AreSent said sent
  pub over : (said ≡ []) ⊎ ((after client_start t).stage ≡ Over)
  pub more : List ℕ
  pub front : g ++ more ≡ line_bytes (lines_for t) ++ sent

-- the same of what a host tells of a link
abbrev pub Speaks : {E : Type 0} → (E → List Envelope → List Envelope → Type 0) → ℕ → Option (List Call) → Type 0
Speaks Stands k None = ⊤
Speaks Stands k (Some cs) = IsSpeech Stands (taken k cs) (given k cs)

-- All that is due for the bytes that were taken was given: the lines and, once these are over, all messages of an end
-- that took each whole message and has none left to hand out.
pub record IsAllGiven {E : Type 0} (Stands : E → List Envelope → List Envelope → Type 0) (IsEmpty : E → Type 0)
    (t g : List ℕ) : Type 0 where
  pub speech : IsSpeech Stands t g
  pub awaits : AwaitsMore speech.rest
  pub none_left : (after client_start t).stage ≡ Over → IsEmpty speech.end
  pub no_more : speech.more ≡ []

-- Nothing of the bytes is at fault: authentication goes on or is over, and the end took the whole messages, behind
-- which more is awaited.
pub record IsInOrder {E : Type 0} (Stands : E → List Envelope → List Envelope → Type 0) (t : List ℕ) : Type 0 where
  pub authenticated : fault_in (after client_start t).stage ≡ None
  pub messages : List (Envelope × List ℕ)
  pub rest : List ℕ
  pub parted : IsParted (behind client_start t) messages rest
  pub awaits : AwaitsMore rest
  pub end : E
  pub said : List Envelope
  pub stands : Stands end (envelopes messages) said

-- the end took whole messages, and the one behind them is at fault; so many bytes stand before it
pub record IsMalformed {E : Type 0} (Stands : E → List Envelope → List Envelope → Type 0) (t : List ℕ)
    (start place reason : ℕ) : Type 0 where
  pub messages : List (Envelope × List ℕ)
  pub rest : List ℕ
  pub parted : IsParted (behind client_start t) messages rest
  pub fault : HasFault rest place reason
  pub before : start ≡ length (stream.bytes_of messages)
  pub end : E
  pub said : List Envelope
  pub stands : Stands end (envelopes messages) said

-- the end took the messages before one, which would take its own past the last number
pub record IsSpentBy {E : Type 0} (Stands : E → List Envelope → List Envelope → Type 0)
    (IsSpent : E → Envelope → Type 0) (t : List ℕ) : Type 0 where
  pub messages : List (Envelope × List ℕ)
  pub message : Envelope
  pub bytes : List ℕ
  pub rest : List ℕ
  pub parted : IsParted (behind client_start t) messages (bytes ++ rest)
  pub is : IsMessage message bytes
  pub end : E
  pub said : List Envelope
  pub stands : Stands end (envelopes messages) said
  pub spent : IsSpent end message

-- the lines of authentication that were taken are at fault, and the end took no message
pub record IsRefused {E : Type 0} (Stands : E → List Envelope → List Envelope → Type 0) (t : List ℕ) : Type 0 where
  pub at_fault : fault_in (after client_start t).stage ≡ None → ⊥
  pub end : E
  pub said : List Envelope
  pub stands : Stands end [] said

-- how a run ended, by the bytes that were taken and the answers of the reads
abbrev pub EndsBy : {E : Type 0} → (E → List Envelope → List Envelope → Type 0) → (E → Envelope → Type 0) → ℕ → Ending
    → ℕ → List Call → Type 0
EndsBy Stands IsSpent k endings.RoundsDone rounds cs = IsInOrder Stands (taken k cs) × AllGoOn (reads k cs)
    × (length (reads k cs) ≡ rounds)
EndsBy Stands IsSpent k endings.PeerEnded rounds cs =
    IsInOrder Stands (taken k cs) × ((before : List _) × (reads k cs ≡ before ++ End ∷ []) × AllGoOn before)
EndsBy Stands IsSpent k endings.HostFailed rounds cs = IsInOrder Stands (taken k cs)
EndsBy Stands IsSpent k endings.NotAuthenticated rounds cs = IsRefused Stands (taken k cs) × AllGoOn (reads k cs)
EndsBy Stands IsSpent k (endings.Malformed start fault) rounds cs =
    IsMalformed Stands (taken k cs) start fault.place fault.reason × AllGoOn (reads k cs)
EndsBy Stands IsSpent k endings.Spent rounds cs = IsSpentBy Stands IsSpent (taken k cs) × AllGoOn (reads k cs)
EndsBy Stands IsSpent k endings.NoMemory rounds cs = ⊤

-- the same of what a host tells
abbrev pub Ends : {E : Type 0} → (E → List Envelope → List Envelope → Type 0) → (E → Envelope → Type 0) → ℕ → Ending → ℕ
    → Option (List Call) → Type 0
Ends Stands IsSpent k ending rounds None = ⊤
Ends Stands IsSpent k ending rounds (Some cs) = EndsBy Stands IsSpent k ending rounds cs
