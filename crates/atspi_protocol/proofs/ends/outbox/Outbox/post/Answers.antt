use Rattle.std.proofs.Common.{◌∙◌, ap, map}
use Rattle.atspi_message.specs.Envelope.{envelope_of}
use Rattle.atspi_protocol.specs.ends.Messages.{posted}
use Rattle.atspi_protocol.proofs.OfEnds.Numbered.{waiting-append}
use Rattle.atspi_protocol.proofs.ends.outbox.Outbox.post.Goals as goal

pub returns-clause-ok : goal.returns-clause-ok
returns-clause-ok c =
    let queued = waiting-append c.self.inside.handed_out c.self.inside.waiting.items c.mail.inside.messages.items c.append.new.self.items c.in_ok-append.ensures.items in
    queued ∙ ap (λ q. posted q (map envelope_of c.mail.inside.messages.items)) c.self.view_is ∙ ap (posted c.args.self.now) c.mail.view_is
