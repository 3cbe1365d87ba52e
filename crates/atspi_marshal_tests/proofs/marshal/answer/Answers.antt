use Rattle.atspi_types.specs.KindView.{kind_of}
use Rattle.atspi_types.specs.DataView.{data_of}
use Rattle.atspi_marshal.proofs.Typing.{typed}
use Rattle.atspi_marshal_tests.proofs.marshal.answer.Goals as goal

pub is_written-requires-clause-typed : goal.is_written-requires-clause-typed
is_written-requires-clause-typed c = (typed (data_of c.in-Ok.value) c.args.order 64 c.args.at (kind_of c.args.ty.now) c.requires.0 c.in-Ok.ensures.found.fits).1
