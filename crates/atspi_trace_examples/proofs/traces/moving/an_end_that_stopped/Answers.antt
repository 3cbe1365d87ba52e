use Rattle.std.proofs.Common.{[], ◌++◌, refl}
use Rattle.std.specs.Fmt.{digits}
use Rattle.atspi_message.specs.Bytes.{spelled_with, header_bytes, body_bytes, body_place, rising_fields}
use Rattle.atspi_tree_model.specs.Path.{path_of}
use Rattle.atspi_trace.specs.Causes.{does, unjoins}
use Rattle.atspi_trace.specs.Work.{moving_up, resting}
use Rattle.atspi_trace.specs.Works.{at_rest, caused}
use Rattle.atspi_trace.proofs.Maps.{maps}
use Rattle.atspi_trace_examples.specs.traces.Cases.{stopped_world}
use Rattle.atspi_trace_examples.proofs.traces.moving.an_end_that_stopped.Goals as goal

pub returns-clause-one : goal.returns-clause-one
unfolding lib.Utf8.encode digits spelled_with header_bytes body_bytes body_place rising_fields path_of
returns-clause-one c =
    let w = stopped_world in
    let d = does w (unjoins 1) in
    (d.entries ++ [], d.world, caused w w d.world (moving_up 1 1) resting (unjoins 1) [] refl (at_rest d.world d.world resting refl), simp maps refl)

pub returns-clause-none : goal.returns-clause-none
returns-clause-none c = at_rest stopped_world stopped_world (moving_up 1 0) refl
