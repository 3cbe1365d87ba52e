-- Words that only the private contracts and proofs beside `Downs` use.
use Rattle.std.specs.Prelude.{List, map}
use Rattle.atspi_message.specs.Envelope.{Envelope}
use Rattle.atspi_trace.specs.World.{Letter}

-- the messages of letters
abbrev pub messages_of : List Letter → List Envelope
messages_of letters = map (λ (l : Letter). l.said.message) letters
