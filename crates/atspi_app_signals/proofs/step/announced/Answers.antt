use Rattle.std.proofs.Common.{◌++◌, List, ap, ◌∙◌}
use Rattle.atspi_message.specs.Envelope.{Envelope}
use Rattle.atspi_protocol.specs.announcing.Announced.{announced}
use Rattle.atspi_app_signals.specs.Asked.{messages_asked, without_contents}
use Rattle.atspi_app_signals.proofs.Told.{same_announced}
use Rattle.atspi_app_signals.proofs.step.announced.Goals as goal

pub returns : goal.returns
returns c = λ f e.
    let heard = c.args.heard.now in
    let bus = c.args.bus.now in
    let t = c.args.tree.now in
    c.in_ok-put.ensures
    ∙ ap (λ (l : List Envelope). l ++ messages_asked heard (announced bus (without_contents t) c.args.step.now)) c.new-mail.ensures
    ∙ ap (messages_asked heard) (same_announced bus t c.args.step.now c.is_lawful.ensures c.requires f e)
