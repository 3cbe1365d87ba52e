use Rattle.std.proofs.Common.{sym}
use Rattle.atspi_marshal.specs.Reading.{input_of}
use Rattle.atspi_marshal_in_place.proofs.Passes.{no_padding}
use Rattle.atspi_marshal_in_place.proofs.plain.padding.Goals as goal

pub returns-then-at-align-eq0-clause-place : goal.returns-then-at-align-eq0-clause-place
returns-then-at-align-eq0-clause-place c = sym (no_padding (input_of c.args.input.now) c.args.align c.args.bound c.args.at c.if-at-align-eq0.true c.requires.at)
