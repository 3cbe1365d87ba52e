use Rattle.std.proofs.Common.{sym, ap, ◌∙◌, [], ◌∷◌, ◌++◌, List}
use Rattle.atspi_message.specs.Envelope.{Envelope}
use Rattle.atspi_registry.proofs.Telling.{added}
use Rattle.atspi_registry.proofs.mails.tell_child.Goals as goal

pub returns : goal.returns
returns c =
    c.in_ok-push.ensures.ok ∙ ap (λ (e : Envelope). c.args.mail.now ++ e ∷ []) c.in_ok-child_added.ensures
    ∙ ap (λ (es : List Envelope). c.args.mail.now ++ es) (sym (added c.args.pairs.now c.args.index (c.args.caller.now, c.args.place.now) (sym c.asks_for.ensures ∙ c.if-not-asks_for.false)))
