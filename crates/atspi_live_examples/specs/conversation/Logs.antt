-- An end that is just what it did, conversations with it, and small messages.
use Rattle.std.specs.Prelude.{◌≡◌, ℕ, List, [], ◌∷◌, None, Some, codes}
use Rattle.atspi_auth.specs.Talk.{client_start}
use Rattle.atspi_auth.specs.declared.said.AuthLine.{AuthLine}
use Rattle.atspi_auth.specs.declared.said.AuthLine.TheVariants.{Hail, Data, Begin}
use Rattle.atspi_auth.specs.declared.stage.Stage.TheVariants.{Over}
use Rattle.atspi_types.specs.declared.fault.Order.TheVariants.{Little}
use Rattle.atspi_message.specs.Envelope.{Envelope}
use Rattle.atspi_live_conversation.specs.declared.conversation.Conversation.{Conversation}

-- the messages that it took, and those that it handed out
abbrev pub Log : Type 0
Log = List Envelope × List Envelope

abbrev pub Logs : Log → List Envelope → List Envelope → Type 0
Logs end took said = (end.0 ≡ took) × (end.1 ≡ said)

-- it took and handed out nothing
abbrev pub fresh : Log
fresh = ([], [])

-- an end that stands nowhere
abbrev pub Nowhere : ℕ → List Envelope → List Envelope → Type 0
Nowhere n took said = ⊥

-- an end that handed out just this message, and took none
abbrev pub Handed : Envelope → ℕ → List Envelope → List Envelope → Type 0
Handed e n took said = (took ≡ []) × (said ≡ e ∷ [])

-- just this message takes its own past the last number
abbrev pub IsSpentAt : Envelope → Log → Envelope → Type 0
IsSpentAt e end m = m ≡ e

abbrev pub IsNever : Log → Envelope → Type 0
IsNever end m = ⊥

-- a call with this number, which no message may have if it is 0
abbrev pub call : ℕ → Envelope
call n = record {
  order = Little;
  kind = 1;
  flags = 0;
  serial = n;
  path = Some (codes "/p");
  interface = None;
  member = Some (codes "M");
  error = None;
  reply = None;
  destination = None;
  sender = None;
  body = [];
}

-- nothing was heard or said
abbrev pub begun : Conversation
begun = record { client = client_start; feeder = []; unsent = []; heard = 0 }

-- the first line was handed out, and nothing was heard
abbrev pub hailed : Conversation
hailed = record begun { client = record client_start { unsent = [] } }

-- the lines are over, with these that are not handed out yet
abbrev pub over : List AuthLine → Conversation
over lines = record begun { client = record { stage = Over; line = []; unsent = lines } }

-- the lines of a client that is let in
abbrev pub three_lines : List AuthLine
three_lines = Hail ∷ Data ∷ Begin ∷ []
