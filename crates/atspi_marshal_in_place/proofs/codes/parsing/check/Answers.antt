use Rattle.std.proofs.lemmas.Result.{err_from_is_err_and}
use Rattle.atspi_marshal_in_place.proofs.OfCodes.Checking.{checked_ok, checked_err}
use Rattle.atspi_marshal_in_place.proofs.codes.parsing.check.Goals as goal

pub returns-in_err-innermost : goal.returns-in_err-innermost
returns-in_err-innermost c =
    let p = err_from_is_err_and c.from_residual.result c.from_residual.ensures.1 in
    rw (p.1, p.2) (checked_err c.args.bytes.now c.in_err-innermost.field-0.0 (rw c.min.ensures at c.in_err-innermost.ensures))

pub returns : goal.returns
returns c = checked_ok c.args.bytes.now c.in_ok-innermost.innermost c.finish.result (rw c.min.ensures at c.in_ok-innermost.ensures) c.finish.ensures
