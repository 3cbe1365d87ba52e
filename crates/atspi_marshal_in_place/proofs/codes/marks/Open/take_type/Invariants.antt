use Rattle.std.proofs.Common.{◌≡◌, length}
use Rattle.atspi_marshal_in_place.specs.codes.inner.Marks.{typed}
use Rattle.atspi_marshal_in_place.proofs.codes.marks.Open.take_type.Given as goal

abbrev pub invariant-loop-self : goal.invariant-loop-self
invariant-loop-self l = typed l.self ≡ typed l.initial.self

abbrev pub decreases-loop-self : goal.decreases-loop-self
decreases-loop-self l = length l.self
