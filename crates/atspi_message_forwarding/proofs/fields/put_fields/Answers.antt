use Rattle.std.proofs.lemmas.Result.{err_from_is_err_and}
use Rattle.atspi_message.specs.Bytes.{rising_fields}
use Rattle.atspi_message.proofs.FieldsWriting.{puts_then, puts_refused}
use Rattle.atspi_message_forwarding.proofs.fields.put_fields.Goals as goal

pub returns-in_err-behind_path : goal.returns-in_err-behind_path
unfolding rising_fields
returns-in_err-behind_path c =
    let p = err_from_is_err_and c.from_residual.result c.from_residual.ensures.1 in
    rw (p.1, p.2) (puts_refused _ _ _ _ _ _ _ c.in_err-behind_path.ensures)

pub returns-in_err-behind_interface : goal.returns-in_err-behind_interface
unfolding rising_fields
returns-in_err-behind_interface c =
    let p = err_from_is_err_and c.from_residual-in_err-behind_interface.result c.from_residual-in_err-behind_interface.ensures.1 in
    rw (p.1, p.2) (puts_then _ _ _ _ _ _ _ _ _ c.in_ok-behind_path.ensures (puts_refused _ _ _ _ _ _ _ c.in_err-behind_interface.ensures))

pub returns-in_err-behind_member : goal.returns-in_err-behind_member
unfolding rising_fields
returns-in_err-behind_member c =
    let p = err_from_is_err_and c.from_residual-in_err-behind_member.result c.from_residual-in_err-behind_member.ensures.1 in
    rw (p.1, p.2) (puts_then _ _ _ _ _ _ _ _ _ c.in_ok-behind_path.ensures (puts_then _ _ _ _ _ _ _ _ _ c.in_ok-behind_interface.ensures (puts_refused _ _ _ _ _ _ _ c.in_err-behind_member.ensures)))

pub returns-in_err-behind_error : goal.returns-in_err-behind_error
unfolding rising_fields
returns-in_err-behind_error c =
    let p = err_from_is_err_and c.from_residual-in_err-behind_error.result c.from_residual-in_err-behind_error.ensures.1 in
    rw (p.1, p.2) (puts_then _ _ _ _ _ _ _ _ _ c.in_ok-behind_path.ensures (puts_then _ _ _ _ _ _ _ _ _ c.in_ok-behind_interface.ensures (puts_then _ _ _ _ _ _ _ _ _ c.in_ok-behind_member.ensures
    (puts_refused _ _ _ _ _ _ _ c.in_err-behind_error.ensures))))

pub returns : goal.returns
unfolding rising_fields
returns c =
    puts_then _ _ _ _ _ _ _ _ _ c.in_ok-behind_path.ensures (puts_then _ _ _ _ _ _ _ _ _ c.in_ok-behind_interface.ensures (puts_then _ _ _ _ _ _ _ _ _ c.in_ok-behind_member.ensures
    (puts_then _ _ _ _ _ _ _ _ _ c.in_ok-behind_error.ensures c.put_later.ensures)))
