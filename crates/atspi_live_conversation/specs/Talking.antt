-- A conversation that goes on: what was heard and said so far, and what its steps do.
use Rattle.std.specs.Prelude.{◌≡◌, ◌⊎◌, ◌≤◌, ℕ, List, ◌∷◌, ◌++◌, length, Option, []}
use Rattle.std.specs.Prelude.{None, MatchOption, ⊤}
use Rattle.atspi_auth.specs.Talk.{Stands, behind, client_start, fault_in}
use Rattle.atspi_auth.specs.declared.said.AuthLine.{AuthLine}
use Rattle.atspi_auth.specs.declared.stage.Stage.TheVariants.{Over}
use Rattle.atspi_types.specs.declared.fault.Fault.{Fault}
use Rattle.atspi_message.specs.Envelope.{Envelope}
use Rattle.atspi_message.specs.Rules.{MeetsRules}
use Rattle.atspi_message.specs.Bytes.{IsMessage}
use Rattle.atspi_stream.specs.Stream.{AwaitsMore, HasFault, IsParted}
use Rattle.atspi_live_host.specs.declared.call.Did.{Did}
use Rattle.atspi_live_host.specs.declared.call.Call.{Call}
use Rattle.atspi_live_conversation.specs.Sent.{AreSent, AllMeet}
use Rattle.atspi_base.specs.Outside.{Rose}
use Rattle.atspi_live_conversation.specs.Moved.{Tells, AllGoOn}
use Rattle.atspi_live_conversation.specs.Rounds.{Makes}
use Rattle.atspi_live_conversation.specs.Speech.{envelopes, line_bytes, Speaks, Ends}
use Rattle.atspi_live_conversation.specs.declared.conversation.Conversation.{Conversation}
use Rattle.atspi_live_conversation.specs.declared.ending.Ending.{Ending}
use Rattle.atspi_live_conversation.specs.declared.ending.Ending.TheVariants as endings

-- how many bytes of messages were heard
abbrev pub heard_in : Conversation → ℕ
heard_in c = c.heard

-- nothing was heard or said
pub record HasBegun (c : Conversation) : Type 0 where
  pub client : c.client ≡ client_start
  pub feeder : c.feeder ≡ []
  pub unsent : c.unsent ≡ []
  pub heard : c.heard ≡ 0

-- whatever an end did before, it took one more message
abbrev pub Takes : {E : Type 0} → (E → List Envelope → List Envelope → Type 0) → E → E → Envelope → Type 0
Takes Stands old new e = (took said : List Envelope) → Stands old took said → Stands new (took ++ e ∷ []) said

-- or it handed out one more
abbrev pub HandsOut : {E : Type 0} → (E → List Envelope → List Envelope → Type 0) → E → E → Envelope → Type 0
HandsOut Stands old new e = (took said : List Envelope) → Stands old took said → Stands new took (said ++ e ∷ [])

-- or it did nothing for the link
abbrev pub Rests : {E : Type 0} → (E → List Envelope → List Envelope → Type 0) → E → E → Type 0
Rests Stands old new = (took said : List Envelope) → Stands old took said → Stands new took said

-- it has no message queued
abbrev pub HasNone : {E : Type 0} → (E → ℕ) → E → Type 0
HasNone queued end = queued end ≡ 0

-- what it hands out meets the rules of messages, where those that it took did
abbrev pub MaySend : {E : Type 0} → (E → List Envelope → List Envelope → Type 0) → E → Envelope → Type 0
MaySend Stands end e = (took said : List Envelope) → Stands end took said → AllMeet took → MeetsRules e

-- an end that took only messages that meet the rules
pub record MaySpeak {E : Type 0} (Stands : List ℕ → E → List Envelope → List Envelope → Type 0) (end : E) : Type 0 where
  pub aside : List ℕ
  pub took : List Envelope
  pub said : List Envelope
  pub stands : Stands aside end took said
  pub meet : AllMeet took

-- it handed out some messages, which were put behind some bytes
pub record Says {E : Type 0} (Stands : E → List Envelope → List Envelope → Type 0) (old new : E)
    (unsent unsent' : List ℕ) : Type 0 where
  pub messages : List Envelope
  pub sent : List ℕ
  pub spelled : AreSent messages sent
  pub behind : unsent' ≡ unsent ++ sent
  pub handed : (took said : List Envelope) → Stands old took said → Stands new took (said ++ messages)

-- all lines that are to be said wait to be given, and where none of its bytes waits and the lines are over, an end has
-- no message left
pub record IsUttered {E : Type 0} (queued : E → ℕ) (c : Conversation) (end : E) : Type 0 where
  pub lines : c.client.unsent ≡ []
  pub none_left : c.unsent ≡ [] → c.client.stage ≡ Over → HasNone queued end

-- what is held behind whole messages awaits more, or has a fault
abbrev pub EndsIn : Option Fault → List ℕ → Type 0
EndsIn fault held = MatchOption fault (AwaitsMore held) (λ f. HasFault held f.place f.reason)

-- the end took the whole messages that were held
pub record Attends {E : Type 0} (Stands : E → List Envelope → List Envelope → Type 0) (held held' : List ℕ)
    (old new : E) : Type 0 where
  pub messages : List (Envelope × List ℕ)
  pub parted : IsParted held messages held'
  pub took : (took said : List Envelope) → Stands old took said → Stands new (took ++ envelopes messages) said

-- all that were whole, and behind them more is awaited or there is a fault
pub record AttendsAll {E : Type 0} (Stands : E → List Envelope → List Envelope → Type 0) (fault : Option Fault)
    (held held' : List ℕ) (old new : E) : Type 0 where
  pub attends : Attends Stands held held' old new
  pub ends : EndsIn fault held'

-- those before one that would take its own past the last number, for which it then did nothing
pub record AttendsToSpent {E : Type 0} (Stands : E → List Envelope → List Envelope → Type 0)
    (IsSpent : E → Envelope → Type 0) (held : List ℕ) (old new : E) : Type 0 where
  pub message : Envelope
  pub bytes : List ℕ
  pub rest : List ℕ
  pub is : IsMessage message bytes
  pub end : E
  pub attends : Attends Stands held (bytes ++ rest) old end
  pub spent : IsSpent end message
  pub rests : Rests Stands end new

-- What was heard and said so far, where these bytes were taken and those given: the lines and the messages that were
-- said, and those that the end took. The end says nothing before the lines are over.
pub record Converses {E : Type 0} (Stands' : E → List Envelope → List Envelope → Type 0) (t g : List ℕ)
    (c : Conversation) (end : E) : Type 0 where
  pub lines : List AuthLine
  pub messages : List (Envelope × List ℕ)
  pub said : List Envelope
  pub sent : List ℕ
  pub client_stands : Stands client_start t lines c.client
  pub parted : IsParted (behind client_start t) messages c.feeder
  pub heard : c.heard ≡ length (behind client_start t)
  pub end_stands : Stands' end (envelopes messages) said
  pub spelled : AreSent said sent
  pub all : g ++ c.unsent ≡ line_bytes lines ++ sent
  pub order : (said ≡ []) ⊎ ((c.client.stage ≡ Over) × (c.client.unsent ≡ []))

-- and nothing of it is at fault, with all whole messages taken
pub record IsAtEase {E : Type 0} (Stands' : E → List Envelope → List Envelope → Type 0) (t g : List ℕ)
    (c : Conversation) (end : E) : Type 0 where
  pub converses : Converses Stands' t g c end
  pub authenticated : fault_in c.client.stage ≡ None
  pub awaits : AwaitsMore c.feeder

-- between two rounds: where the host tells its calls, they moved these bytes
pub record Going {E : Type 0} (Stands' : E → List Envelope → List Envelope → Type 0) (k : ℕ)
    (calls : Option (List Call)) (rounds : ℕ) (c : Conversation) (end : E) : Type 0 where
  pub t : List ℕ
  pub g : List ℕ
  pub dids : List Did
  pub tells : Tells k calls t g dids
  pub go_on : AllGoOn dids
  pub counted : length dids ≡ rounds
  pub at_ease : IsAtEase Stands' t g c end

-- where a run went on so far, such calls were made next, which hang on what was taken and given before
abbrev pub MakesNext : {E : Type 0} → (E → List Envelope → List Envelope → Type 0) → ℕ → Option (List Call)
    → Option (List Call) → Conversation → E → (List ℕ → List ℕ → List Call → Type 0) → Type 0
MakesNext Stands k old new c end P = (n : ℕ) (going : Going Stands k old n c end) → Makes old new (P going.t going.g)

-- a run that ended: what was said, and why it ended
abbrev pub IsEnded : {E : Type 0} → (E → List Envelope → List Envelope → Type 0) → (E → Envelope → Type 0) → ℕ → Ending
    → ℕ → Option (List Call) → Type 0
IsEnded Stands IsSpent k ending rounds calls = Speaks Stands k calls × Ends Stands IsSpent k ending rounds calls

-- the count of failed reads and writes rose where one failed, and else is the same
abbrev pub Blames : Ending → ℕ → ℕ → Type 0
Blames endings.HostFailed before after = (before ≤ after) × Rose before after
Blames ending before after = after ≡ before

-- an ending in a round that is not whole
abbrev pub IsBroken : Ending → Type 0
IsBroken endings.RoundsDone = ⊥
IsBroken ending = ⊤
