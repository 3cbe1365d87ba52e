-- What is sent back for a call.
use Rattle.std.specs.Prelude.{ℕ, List, [], Option, None, Some}
use Rattle.atspi_message.specs.Envelope.{Envelope}
use Rattle.atspi_protocol.specs.ends.Messages.{Reply, replies}

-- the reply to its sender, where the sender waits for one; a call without a sender gets none
abbrev pub sent_back : Envelope → Reply → List Envelope
sent_back call reply = by call.sender
  where
    by : Option (List ℕ) → List Envelope
    by None = []
    by (Some caller) = replies caller call reply
