use Rattle.std.proofs.Common.{refl}
use Rattle.std.specs.Fmt.{digits}
use Rattle.atspi_tree_model.specs.Path.{path_of}
use Rattle.atspi_headline_examples.proofs.dues.of_own_calls.Goals as goal

pub returns-clause-part : goal.returns-clause-part
unfolding lib.Utf8.encode digits path_of
returns-clause-part c = refl

pub returns-clause-of_its_user : goal.returns-clause-of_its_user
unfolding lib.Utf8.encode digits path_of
returns-clause-of_its_user c = refl
