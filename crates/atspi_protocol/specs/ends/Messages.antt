-- The messages that ends send (D-Bus Specification, "Message Protocol"): little-endian, without a sender, which the bus
-- puts in, and with the flag that no reply is expected in all that are no calls. A message gets its number when it is
-- queued.
use Rattle.std.specs.Prelude.{refl, ◌==◌, ◌&&◌, ℕ, ◌+◌, Bool, List, [], ◌∷◌, ◌++◌, length, None, Some, codes, bit_and}
use Rattle.std.specs.Prelude.{if◌then◌else◌}
use Rattle.atspi_types.specs.Data.{Data, text_data}
use Rattle.atspi_types.specs.declared.fault.Order.TheVariants.{Little}
use Rattle.atspi_message.specs.Envelope.{Envelope}
use Rattle.std.specs.Coded.{Coded, code_by, coded_ℕ, coded_list, coded×}
use Rattle.atspi_protocol.specs.ends.DataCode.{envelope_code}
use Rattle.atspi_protocol.specs.declared.ends.error.CallError.{CallError}
use Rattle.atspi_protocol.specs.declared.ends.error.CallError.TheVariants.{UnknownObject, UnknownInterface}
use Rattle.atspi_protocol.specs.declared.ends.error.CallError.TheVariants.{UnknownMethod, InvalidArgs, UnknownProperty}
use Rattle.atspi_protocol.specs.declared.ends.error.CallError.TheVariants.{PropertyReadOnly}

-- a message of this type with these flags, before it has its number
abbrev message_of : ℕ → ℕ → Envelope
message_of kind flags = record {
  order = Little;
  kind = kind;
  flags = flags;
  serial = 0;
  path = None;
  interface = None;
  member = None;
  error = None;
  reply = None;
  destination = None;
  sender = None;
  body = [];
}

-- a call of a member of another end's object
abbrev pub call_to : List ℕ → List ℕ → List ℕ → List ℕ → List Data → Envelope
call_to destination path interface member body =
    record (message_of 1 0) {
      path = Some path;
      interface = Some interface;
      member = Some member;
      destination = Some destination;
      body = body;
    }

-- a signal to all that ask for it
abbrev pub signal_of : List ℕ → List ℕ → List ℕ → List Data → Envelope
signal_of path interface member body =
    record (message_of 4 1) { path = Some path; interface = Some interface; member = Some member; body = body }

-- what a caller's call with this serial returns
abbrev pub return_to : List ℕ → ℕ → List Data → Envelope
return_to caller serial values =
    record (message_of 2 1) { reply = Some serial; destination = Some caller; body = values }

-- or an error of the name that ends in this word, with the word as its text
abbrev pub error_to : List ℕ → ℕ → List ℕ → Envelope
error_to caller serial word =
    record (message_of 3 1) {
      error = Some (codes "org.freedesktop.DBus.Error." ++ word);
      reply = Some serial;
      destination = Some caller;
      body = text_data word ∷ [];
    }

-- why a call of an object is refused, as the last word of the error's name
abbrev pub error_word : CallError → List ℕ
error_word UnknownObject = codes "UnknownObject"
error_word UnknownInterface = codes "UnknownInterface"
error_word UnknownMethod = codes "UnknownMethod"
error_word InvalidArgs = codes "InvalidArgs"
error_word UnknownProperty = codes "UnknownProperty"
error_word PropertyReadOnly = codes "PropertyReadOnly"

-- a call returns values, or fails with an error of this word
pub data Reply : Type 0 where
  returns : List Data → Reply
  fails : List ℕ → Reply

abbrev pub reply_to : List ℕ → ℕ → Reply → Envelope
reply_to caller serial (returns values) = return_to caller serial values
reply_to caller serial (fails word) = error_to caller serial word

-- a call whose caller waits for the reply
abbrev pub expects_reply : Envelope → Bool
expects_reply e = e.kind == 1 && (bit_and e.flags 1 == 0)

-- the reply to a caller's call, none where it expects none
abbrev pub replies : List ℕ → Envelope → Reply → List Envelope
replies caller call reply = if expects_reply call then reply_to caller call.serial reply ∷ [] else []

-- messages with their numbers, which rise by one
abbrev pub numbered : ℕ → List Envelope → List Envelope
numbered n [] = []
numbered n (e ∷ es) = record e { serial = n } ∷ numbered (n + 1) es

-- what an end has queued, and the number of its next message
pub record Queue : Type 0 where
  pub next : ℕ
  pub out : List Envelope

-- the queue behind which more messages stand, with their numbers
abbrev pub posted : Queue → List Envelope → Queue
posted q es = record { next = q.next + length es; out = q.out ++ numbered q.next es }

-- a queue is told from another by its two parts
abbrev pub queue_code : Coded Queue
queue_code =
    code_by (ℕ × List Envelope) (coded× coded_ℕ (coded_list envelope_code)) (λ q. (q.next, q.out))
    (λ p. record { next = p.0; out = p.1 }) (λ _. refl)
