use Rattle.std.proofs.Common.{refl}
use Rattle.std.specs.Fmt.{digits}
use Rattle.atspi_tree_model.specs.Path.{path_of}
use Rattle.atspi_protocol.proofs.objects.examples.whole.paths.Goals as goal

pub returns-clause-entry : goal.returns-clause-entry
unfolding digits path_of
returns-clause-entry c = refl

pub returns-clause-two_digits : goal.returns-clause-two_digits
unfolding digits path_of
returns-clause-two_digits c = refl

pub returns-clause-leading_zero : goal.returns-clause-leading_zero
unfolding digits path_of
returns-clause-leading_zero c = refl

pub returns-clause-zero : goal.returns-clause-zero
unfolding digits path_of
returns-clause-zero c = refl

pub returns-clause-gone : goal.returns-clause-gone
unfolding digits path_of
returns-clause-gone c = refl

pub returns-clause-no_text : goal.returns-clause-no_text
unfolding digits path_of
returns-clause-no_text c = refl

pub returns-clause-changes : goal.returns-clause-changes
unfolding digits path_of
returns-clause-changes c = refl
