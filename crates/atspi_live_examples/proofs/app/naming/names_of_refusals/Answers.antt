use Rattle.std.proofs.Common.{refl}
use Rattle.std.specs.Fmt.{digits}
use Rattle.atspi_live_examples.proofs.app.naming.names_of_refusals.Goals as goal

pub returns-clause-no_node : goal.returns-clause-no_node
returns-clause-no_node c = refl

pub returns-clause-is_root : goal.returns-clause-is_root
returns-clause-is_root c = refl

pub returns-clause-no_face : goal.returns-clause-no_face
returns-clause-no_face c = refl

pub returns-clause-bad_index : goal.returns-clause-bad_index
returns-clause-bad_index c = refl

pub returns-clause-bad_offset : goal.returns-clause-bad_offset
returns-clause-bad_offset c = refl

pub returns-clause-cycle : goal.returns-clause-cycle
returns-clause-cycle c = refl

pub returns-clause-full : goal.returns-clause-full
returns-clause-full c = refl

pub returns-clause-text_full : goal.returns-clause-text_full
returns-clause-text_full c = refl

pub returns-clause-long : goal.returns-clause-long
returns-clause-long c = refl

pub returns-clause-not_utf8 : goal.returns-clause-not_utf8
returns-clause-not_utf8 c = refl

pub returns-clause-form : goal.returns-clause-form
returns-clause-form c = refl

pub returns-clause-edit : goal.returns-clause-edit
returns-clause-edit c = refl

pub returns-clause-line : goal.returns-clause-line
unfolding digits
returns-clause-line c = refl
