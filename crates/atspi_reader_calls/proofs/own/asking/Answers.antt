use Rattle.std.proofs.Common.{◌∙◌, ap}
use Rattle.atspi_message.specs.Envelope.{Envelope, envelope_of}
use Rattle.atspi_protocol.specs.following.Calls.{asking}
use Rattle.atspi_reader_calls.proofs.Meets.{asking_meets, of_made}
use Rattle.atspi_reader_calls.proofs.own.asking.Goals as goal

pub returns-clause-call : goal.returns-clause-call
returns-clause-call c = c.numbered.ensures ∙ ap (λ (e : Envelope). record e { serial = c.args.serial }) c.in_ok-message.ensures

pub returns-clause-meets : goal.returns-clause-meets
returns-clause-meets c = λ some. of_made _ (asking c.args.serial c.args.question.now) (c.numbered.ensures ∙ ap (λ (e : Envelope). record e { serial = c.args.serial }) c.in_ok-message.ensures) (asking_meets c.args.serial c.args.question.now some)
