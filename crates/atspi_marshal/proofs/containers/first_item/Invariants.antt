use Rattle.std.proofs.Common.{◌≡◌}
use Rattle.atspi_types.specs.KindView.{kind_of}
use Rattle.atspi_marshal.specs.Reading.{first_of, layers}
use Rattle.atspi_marshal.proofs.containers.first_item.Given as goal

abbrev pub invariant-loop-item : goal.invariant-loop-item
invariant-loop-item l = first_of (kind_of l.item) ≡ first_of (kind_of l.ty)

abbrev pub decreases-loop-item : goal.decreases-loop-item
decreases-loop-item l = layers (kind_of l.item)
