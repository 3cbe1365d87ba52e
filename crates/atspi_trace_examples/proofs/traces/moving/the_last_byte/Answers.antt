use Rattle.std.proofs.Common.{[], ◌++◌, refl}
use Rattle.std.specs.Fmt.{digits}
use Rattle.atspi_message.specs.Bytes.{spelled_with, header_bytes, body_bytes, body_place, rising_fields}
use Rattle.atspi_tree_model.specs.Path.{path_of}
use Rattle.atspi_trace.specs.Causes.{does, routes}
use Rattle.atspi_trace.specs.Work.{moving_up, moved_up}
use Rattle.atspi_trace.specs.Works.{at_rest, caused}
use Rattle.atspi_trace.proofs.Maps.{maps}
use Rattle.atspi_trace_examples.specs.traces.Cases.{greeting_world}
use Rattle.atspi_trace_examples.proofs.OfTraces.Resting.{nothing_moves}
use Rattle.atspi_trace_examples.proofs.traces.moving.the_last_byte.Goals as goal

pub returns : goal.returns
unfolding lib.Utf8.encode digits spelled_with header_bytes body_bytes body_place rising_fields path_of
returns c =
    let w = moved_up greeting_world 1 127 in
    let d = does w (routes 1) in
    (d.entries ++ [], d.world, caused w w d.world (moving_up 1 1) (moving_up 1 0) (routes 1) [] refl (at_rest d.world d.world (moving_up 1 0) (nothing_moves d.world 1 0 (simp maps refl))), simp maps refl)
