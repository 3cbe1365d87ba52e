use Rattle.atspi_types.specs.KindView.{kinds_in}
use Rattle.atspi_types.proofs.ReadingLemmas.{Began}
use Rattle.atspi_types.proofs.parser.front.Given as goal

abbrev pub invariant-loop-byte : goal.invariant-loop-byte
invariant-loop-byte l = Began l.bytes (kinds_in l.types) l.byte-index
