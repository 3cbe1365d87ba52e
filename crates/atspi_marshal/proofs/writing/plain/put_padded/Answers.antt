use Rattle.std.proofs.lemmas.Result.{err_from_is_err_and}
use Rattle.std.proofs.Common.{length, ◌++◌}
use Rattle.atspi_marshal.specs.Spelling.{padding}
use Rattle.atspi_marshal.proofs.WritingSteps.{Pads-refused, padded_room, padded_written}
use Rattle.atspi_marshal.proofs.writing.plain.put_padded.Goals as goal

pub returns-in_err-place-clause-writes : goal.returns-in_err-place-clause-writes
returns-in_err-place-clause-writes c =
    let p = err_from_is_err_and c.from_residual.result c.from_residual.ensures.1 in
    rw (p.1, p.2) (Pads-refused (Unit {0}) (padding c.args.align c.args.at ++ c.args.bytes.now) c.args.align c.args.at (length c.args.bytes.now) c.args.at c.args.out.now c.put_padding.new.out c.args.out.now c.put_padding.new.out c.in_err-place.field-0.0 (padded_room c.args.align c.args.at c.args.bytes.now) c.in_err-place.ensures.pads)

pub returns-clause-writes : goal.returns-clause-writes
returns-clause-writes c = padded_written c.args.align c.args.at c.in_ok-place.place c.args.bytes.now c.args.out.now c.put_padding.new.out c.extend.new.self c.in_ok-place.ensures.pads c.in_ok-extend.ensures.ok
