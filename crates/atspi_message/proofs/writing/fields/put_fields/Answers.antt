use Rattle.std.proofs.lemmas.Result.{err_from_is_err_and}
use Rattle.atspi_message.specs.Bytes.{rising_fields}
use Rattle.atspi_message.proofs.FieldsWriting.{puts_then, puts_refused}
use Rattle.atspi_message.proofs.writing.fields.put_fields.Goals as goal

pub returns-in_err-behind_path-clause-puts : goal.returns-in_err-behind_path-clause-puts
unfolding rising_fields
returns-in_err-behind_path-clause-puts c =
    let p = err_from_is_err_and c.from_residual.result c.from_residual.ensures.1 in
    rw (p.1, p.2) (puts_refused _ _ _ _ _ _ _ c.in_err-behind_path.ensures.puts)

pub returns-in_err-behind_interface-clause-puts : goal.returns-in_err-behind_interface-clause-puts
unfolding rising_fields
returns-in_err-behind_interface-clause-puts c =
    let p = err_from_is_err_and c.from_residual-in_err-behind_interface.result c.from_residual-in_err-behind_interface.ensures.1 in
    rw (p.1, p.2) (puts_then _ _ _ _ _ _ _ _ _ c.in_ok-behind_path.ensures.puts (puts_refused _ _ _ _ _ _ _ c.in_err-behind_interface.ensures.puts))

pub returns-in_err-behind_member-clause-puts : goal.returns-in_err-behind_member-clause-puts
unfolding rising_fields
returns-in_err-behind_member-clause-puts c =
    let p = err_from_is_err_and c.from_residual-in_err-behind_member.result c.from_residual-in_err-behind_member.ensures.1 in
    rw (p.1, p.2) (puts_then _ _ _ _ _ _ _ _ _ c.in_ok-behind_path.ensures.puts (puts_then _ _ _ _ _ _ _ _ _ c.in_ok-behind_interface.ensures.puts (puts_refused _ _ _ _ _ _ _ c.in_err-behind_member.ensures.puts)))

pub returns-in_err-behind_error-clause-puts : goal.returns-in_err-behind_error-clause-puts
unfolding rising_fields
returns-in_err-behind_error-clause-puts c =
    let p = err_from_is_err_and c.from_residual-in_err-behind_error.result c.from_residual-in_err-behind_error.ensures.1 in
    rw (p.1, p.2) (puts_then _ _ _ _ _ _ _ _ _ c.in_ok-behind_path.ensures.puts (puts_then _ _ _ _ _ _ _ _ _ c.in_ok-behind_interface.ensures.puts (puts_then _ _ _ _ _ _ _ _ _ c.in_ok-behind_member.ensures.puts
    (puts_refused _ _ _ _ _ _ _ c.in_err-behind_error.ensures.puts))))

pub returns-clause-puts : goal.returns-clause-puts
unfolding rising_fields
returns-clause-puts c =
    puts_then _ _ _ _ _ _ _ _ _ c.in_ok-behind_path.ensures.puts (puts_then _ _ _ _ _ _ _ _ _ c.in_ok-behind_interface.ensures.puts (puts_then _ _ _ _ _ _ _ _ _ c.in_ok-behind_member.ensures.puts
    (puts_then _ _ _ _ _ _ _ _ _ c.in_ok-behind_error.ensures.puts c.put_later.ensures.puts)))
