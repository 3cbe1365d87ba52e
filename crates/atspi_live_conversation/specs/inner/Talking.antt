-- Words that only the private contracts and proofs beside `Talking` use.
use Rattle.std.specs.Prelude.{◌≡◌, ◌⊎◌, ◌<◌, ℕ, ◌-◌, Bool, true, false, List, ◌∷◌, ◌++◌, length, take, Option, []}
use Rattle.std.specs.Prelude.{None, Some, ⊤}
use Rattle.atspi_auth.specs.Talk.{Standing, Stands, fault_in, told}
use Rattle.atspi_message.specs.Envelope.{Envelope}
use Rattle.atspi_live_host.specs.declared.call.Did.{Did}
use Rattle.atspi_live_host.specs.declared.call.Call.{Call}
use Rattle.atspi_live_host.specs.declared.call.Call.TheVariants.{Write}
use Rattle.atspi_live_conversation.specs.Sent.{IsSent}
use Rattle.atspi_live_conversation.specs.Moved.{GoesOn}
use Rattle.atspi_live_conversation.specs.inner.Moved.{Gives}
use Rattle.atspi_live_conversation.specs.Speech.{IsMalformed, IsRefused, IsSpentBy}
use Rattle.atspi_live_conversation.specs.declared.conversation.Conversation.{Conversation}
use Rattle.atspi_live_conversation.specs.declared.ending.Ending.{Ending}
use Rattle.atspi_live_conversation.specs.declared.ending.Ending.TheVariants as endings
use Rattle.atspi_live_conversation.specs.Talking.{HandsOut, Rests, AttendsAll, AttendsToSpent}

-- it handed out one more message, which was put behind some bytes; or it has none
abbrev pub SaysOne : {E : Type 0} → (E → List Envelope → List Envelope → Type 0) → Bool → E → E → List ℕ → List ℕ
    → Type 0
SaysOne Stands true old new unsent unsent' = (e : Envelope) × HandsOut Stands old new e × IsSent e unsent unsent'
SaysOne Stands false old new unsent unsent' = Rests Stands old new × (unsent' ≡ unsent)

-- why what was taken ends the run
abbrev pub BreaksOff : {E : Type 0} → (E → List Envelope → List Envelope → Type 0) → (E → Envelope → Type 0) → Ending
    → List ℕ → Type 0
BreaksOff Stands IsSpent endings.NotAuthenticated t = IsRefused Stands t
BreaksOff Stands IsSpent (endings.Malformed start fault) t = IsMalformed Stands t start fault.place fault.reason
BreaksOff Stands IsSpent endings.Spent t = IsSpentBy Stands IsSpent t
BreaksOff Stands IsSpent endings.NoMemory t = ⊤
BreaksOff Stands IsSpent endings.RoundsDone t = ⊥
BreaksOff Stands IsSpent endings.PeerEnded t = ⊥
BreaksOff Stands IsSpent endings.HostFailed t = ⊥

-- why a piece could not be heard
abbrev pub HearsNot : Ending → Standing → List ℕ → Type 0
HearsNot endings.NotAuthenticated client piece = fault_in (told client piece).stage ≡ None → ⊥
HearsNot endings.NoMemory client piece = ⊤
HearsNot ending client piece = ⊥

-- why the end could not be told all that is held: a message is at fault, behind so many bytes, or the end's own
-- messages are spent
abbrev pub TellsNot : {E : Type 0} → (E → List Envelope → List Envelope → Type 0) → (E → Envelope → Type 0) → Ending
    → Conversation → E → E → Type 0
TellsNot Stands IsSpent (endings.Malformed start fault) c old new = (held : List ℕ)
    × AttendsAll Stands (Some fault) c.feeder held old new × (start ≡ c.heard - length held)
TellsNot Stands IsSpent endings.Spent c old new = AttendsToSpent Stands IsSpent c.feeder old new
TellsNot Stands IsSpent endings.NoMemory c old new = ⊤
TellsNot Stands IsSpent ending c old new = ⊥

-- some of the bytes that waited were given, and no others
abbrev pub GivesPart : ℕ → Option (List Call) → Option (List Call) → List ℕ → List ℕ → Type 0
GivesPart k old new unsent unsent' = (part : List ℕ) × Gives k old new part × (part ++ unsent' ≡ unsent)

-- one write of the first bytes that wait, answered so
abbrev pub PutsFront : ℕ → List ℕ → Did → List Call → Type 0
PutsFront k unsent did calls = (0 < length unsent) × (calls ≡ Write k (take 4096 unsent) did ∷ [])

-- no call where no bytes wait, and else one write behind which the run can go on
abbrev pub PutsIfAny : ℕ → List ℕ → List Call → Type 0
PutsIfAny k unsent calls = ((calls ≡ []) × (unsent ≡ [])) ⊎ ((did : Did) × GoesOn did × PutsFront k unsent did calls)

-- an ending that is neither the peer's nor the host's, nor that of all rounds
abbrev pub IsOwn : Ending → Type 0
IsOwn endings.HostFailed = ⊥
IsOwn endings.PeerEnded = ⊥
IsOwn endings.RoundsDone = ⊥
IsOwn ending = ⊤
