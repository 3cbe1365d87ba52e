-- A reader that has started, and what comes to it on its link.
use Rattle.std.specs.Prelude.{ℕ, List, [], ◌∷◌, ◌++◌, Option, None, Some, codes}
use Rattle.atspi_types.specs.declared.fault.Order.TheVariants.{Little}
use Rattle.atspi_auth.specs.Lines.{end_of_line}
use Rattle.atspi_message.specs.Envelope.{Envelope}
use Rattle.atspi_protocol.specs.declared.following.question.Question.TheVariants.{AddMatch, GetChildren, Hello}
use Rattle.atspi_protocol.specs.following.Calls.{asking}
use Rattle.atspi_protocol.specs.following.ReaderState.{ReaderState, begins}
use Rattle.atspi_protocol.specs.following.Takes.{starts}

-- its first call, which it has queued, and itself once that is handed out
abbrev pub hello : Envelope
hello = asking 1 Hello

abbrev pub asked : ReaderState
asked = record (starts begins) { out = [] }

-- one that waits for the return to a call, behind which it will ask once more, and has this number for its next message
abbrev pub waiting : ℕ → ReaderState
waiting next =
    record begins
    { to_come = GetChildren ∷ []; pending = Some (record { serial = 1; question = AddMatch [] }); next = next }

-- that return, and a signal that tells nothing
abbrev message : ℕ → Option ℕ → Envelope
message kind reply = record {
  order = Little;
  kind = kind;
  flags = 1;
  serial = 9;
  path = None;
  interface = None;
  member = None;
  error = None;
  reply = reply;
  destination = None;
  sender = None;
  body = [];
}

abbrev pub returned : Envelope
returned = message 2 (Some 1)

abbrev pub signal : Envelope
signal = message 4 None

-- the lines of a server that lets a client in, and of one that does not
abbrev pub granted : List ℕ
granted = codes "DATA" ++ (end_of_line ++ (codes "OK 61747370693200000000000000000001" ++ end_of_line))

abbrev pub rejected : List ℕ
rejected = codes "REJECTED EXTERNAL" ++ end_of_line

-- the first line of a client
abbrev pub hail : List ℕ
hail = 0 ∷ codes "AUTH EXTERNAL" ++ end_of_line

-- sixteen bytes that no message begins with: their first tells no order
abbrev pub zeros : List ℕ
zeros = 0 ∷ 0 ∷ 0 ∷ 0 ∷ 0 ∷ 0 ∷ 0 ∷ 0 ∷ 0 ∷ 0 ∷ 0 ∷ 0 ∷ 0 ∷ 0 ∷ 0 ∷ 0 ∷ []
