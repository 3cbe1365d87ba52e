use Rattle.std.proofs.Common.{◌≡◌}
use Rattle.atspi_marshal_in_place.specs.codes.TyRefs.{ref_kind}
use Rattle.atspi_marshal.specs.Reading.{first_of, layers}
use Rattle.atspi_marshal_in_place.proofs.passing.first_item.Given as goal

abbrev pub invariant-layers : goal.invariant-layers
invariant-layers l = first_of (ref_kind l.item) ≡ first_of (ref_kind l.ty)

abbrev pub decreases-layers : goal.decreases-layers
decreases-layers l = layers (ref_kind l.item)
