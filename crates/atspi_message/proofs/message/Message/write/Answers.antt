use Rattle.atspi_message.specs.Envelope.{envelope_of}
use Rattle.atspi_message.proofs.Rising.{written_is}
use Rattle.atspi_message.proofs.message.Message.write.Goals as goal

pub returns-in-Ok-clause-message : goal.returns-in-Ok-clause-message
returns-in-Ok-clause-message c = written_is (envelope_of c.args.self.now) c.requires.meets c.in-Ok.ensures.named c.in-Ok.ensures.fits
