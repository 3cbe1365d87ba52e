use Rattle.atspi_base.proofs.OfValidNames.WalkLemmas.{Came}
use Rattle.atspi_base.proofs.valid_names.elements.are_elements.Given as goal

abbrev pub invariant-loop-byte : goal.invariant-loop-byte
invariant-loop-byte l = Came l.fn.form l.bytes l.byte-index l.state
