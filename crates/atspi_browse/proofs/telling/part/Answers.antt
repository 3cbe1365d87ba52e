use Rattle.std.proofs.Common.{refl}
use Rattle.atspi_base.proofs.PlaceLemmas.{boundary}
use Rattle.atspi_browse.proofs.telling.part.Goals as goal

pub range_from-rest-requires : goal.range_from-rest-requires
range_from-rest-requires c = λ _. boundary _ _ _ _ c.utf8.text refl c.byte_of-from.ensures

pub range-requires-clause-end_boundary : goal.range-requires-clause-end_boundary
range-requires-clause-end_boundary c = boundary _ _ _ _ c.range_from-rest.utf8 refl c.byte_of-len.ensures
