use Rattle.std.proofs.Common.{refl}
use Rattle.std.specs.Fmt.{digits}
use Rattle.atspi_message.specs.Bytes.{spelled_with, header_bytes, body_bytes, body_place, rising_fields}
use Rattle.atspi_tree_model.specs.Path.{path_of}
use Rattle.atspi_trace.specs.Work.{moving_up, moved_up}
use Rattle.atspi_trace.specs.Works.{at_rest}
use Rattle.atspi_trace_examples.specs.traces.Cases.{greeting_world}
use Rattle.atspi_trace_examples.proofs.traces.moving.all_but_one_byte.Goals as goal

pub returns : goal.returns
unfolding lib.Utf8.encode digits spelled_with header_bytes body_bytes body_place rising_fields path_of
returns c = at_rest greeting_world (moved_up greeting_world 1 127) (moving_up 1 127) refl
