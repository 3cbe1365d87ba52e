use Rattle.std.proofs.Common.{◌≡◌, ◌≤◌, ◌+◌, ◌*◌, length}
use Rattle.atspi_marshal_in_place.specs.codes.TyRefs.{refs_kinds}
use Rattle.atspi_marshal.specs.Reading.{input_of}
use Rattle.atspi_marshal_in_place.specs.Passing.{after, read_all}
use Rattle.atspi_marshal_in_place.proofs.jumping.+jump.Given as goal

abbrev pub decreases-jump : goal.decreases-jump
decreases-jump a = 4 * a.levels + 3

abbrev pub decreases-jump_any : goal.decreases-jump_any
decreases-jump_any a = 4 * a.levels + 2

abbrev pub decreases-jump_variant : goal.decreases-jump_variant
decreases-jump_variant a = 4 * a.levels + 1

abbrev pub decreases-jump_fields : goal.decreases-jump_fields
decreases-jump_fields a = 4 * a.levels + 4

-- what is still to be jumped over is all
abbrev pub invariant-jump_fields-rest : goal.invariant-jump_fields-rest
invariant-jump_fields-rest l =
    (l.start ≤ l.at) × (l.at ≤ l.bound.end)
    × (after (read_all (input_of l.input) l.levels (refs_kinds l.rest) l.bound l.at) ≡ after (read_all (input_of l.input) l.levels (refs_kinds l.types) l.bound l.start))

abbrev pub decreases-jump_fields-rest : goal.decreases-jump_fields-rest
decreases-jump_fields-rest l = length (refs_kinds l.rest)
