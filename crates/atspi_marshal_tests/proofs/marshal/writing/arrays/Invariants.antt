use Rattle.atspi_types.specs.Kinds.{IsLawful}
use Rattle.atspi_types.specs.KindView.{kind_of}
use Rattle.atspi_marshal_tests.proofs.marshal.writing.arrays.Given as goal

abbrev pub invariant-loop : goal.invariant-loop
invariant-loop l = IsLawful (kind_of l.ty)
