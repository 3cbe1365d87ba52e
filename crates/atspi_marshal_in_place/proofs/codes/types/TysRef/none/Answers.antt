use Rattle.atspi_marshal_in_place.proofs.OfCodes.Parts.{nothing_spelled}
use Rattle.atspi_marshal_in_place.proofs.codes.types.TysRef.none.Goals as goal

pub invariant_of-result : goal.invariant_of-result
invariant_of-result c = record { all = nothing_spelled.0 }

pub returns : goal.returns
returns c = nothing_spelled.1
