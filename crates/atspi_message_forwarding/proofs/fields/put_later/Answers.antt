use Rattle.std.proofs.lemmas.Result.{err_from_is_err_and}
use Rattle.atspi_message.proofs.FieldsWriting.{puts_then, puts_refused}
use Rattle.atspi_message_forwarding.proofs.fields.put_later.Goals as goal

pub returns-in_err-behind_destination : goal.returns-in_err-behind_destination
returns-in_err-behind_destination c =
    let p = err_from_is_err_and c.from_residual-in_err-behind_destination.result c.from_residual-in_err-behind_destination.ensures.1 in
    rw (p.1, p.2) (puts_then _ _ _ _ _ _ _ _ _ c.in_ok-behind_reply.ensures (puts_refused _ _ _ _ _ _ _ c.in_err-behind_destination.ensures))

pub returns-in_err-behind_sender : goal.returns-in_err-behind_sender
returns-in_err-behind_sender c =
    let p = err_from_is_err_and c.from_residual-in_err-behind_sender.result c.from_residual-in_err-behind_sender.ensures.1 in
    rw (p.1, p.2) (puts_then _ _ _ _ _ _ _ _ _ c.in_ok-behind_reply.ensures (puts_then _ _ _ _ _ _ _ _ _ c.in_ok-behind_destination.ensures (puts_refused _ _ _ _ _ _ _ c.in_err-behind_sender.ensures)))

pub returns : goal.returns
returns c =
    puts_then _ _ _ _ _ _ _ _ _ c.in_ok-behind_reply.ensures (puts_then _ _ _ _ _ _ _ _ _ c.in_ok-behind_destination.ensures (puts_then _ _ _ _ _ _ _ _ _ c.in_ok-behind_sender.ensures (c.put_signature.ensures c.args.m.now.order)))
