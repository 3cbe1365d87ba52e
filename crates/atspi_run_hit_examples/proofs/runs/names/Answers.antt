use Rattle.std.proofs.Common.{refl}
use Rattle.std.specs.Fmt.{digits}
use Rattle.atspi_run_hit_examples.proofs.runs.names.Goals as goal

pub returns-clause-long : goal.returns-clause-long
unfolding digits
returns-clause-long c = refl

pub returns-clause-not_utf8 : goal.returns-clause-not_utf8
unfolding digits
returns-clause-not_utf8 c = refl

pub returns-clause-form : goal.returns-clause-form
unfolding digits
returns-clause-form c = refl

pub returns-clause-no_node : goal.returns-clause-no_node
unfolding digits
returns-clause-no_node c = refl

pub returns-clause-is_root : goal.returns-clause-is_root
unfolding digits
returns-clause-is_root c = refl

pub returns-clause-no_face : goal.returns-clause-no_face
unfolding digits
returns-clause-no_face c = refl

pub returns-clause-bad_index : goal.returns-clause-bad_index
unfolding digits
returns-clause-bad_index c = refl

pub returns-clause-bad_offset : goal.returns-clause-bad_offset
unfolding digits
returns-clause-bad_offset c = refl

pub returns-clause-cycle : goal.returns-clause-cycle
unfolding digits
returns-clause-cycle c = refl

pub returns-clause-full : goal.returns-clause-full
unfolding digits
returns-clause-full c = refl

pub returns-clause-text_full : goal.returns-clause-text_full
unfolding digits
returns-clause-text_full c = refl
