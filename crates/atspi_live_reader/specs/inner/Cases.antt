-- Words behind `Cases` that only private contracts and proofs use.
use Rattle.atspi_message.specs.Envelope.{Envelope}
use Rattle.atspi_protocol.specs.declared.following.question.Question.TheVariants.{Hello}
use Rattle.atspi_protocol.specs.following.Calls.{asking}

-- its first call, and its first line
abbrev pub hello : Envelope
hello = asking 1 Hello
