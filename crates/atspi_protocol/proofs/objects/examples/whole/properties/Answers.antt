use Rattle.std.proofs.Common.{refl}
use Rattle.std.specs.Fmt.{digits}
use Rattle.atspi_tree_model.specs.Path.{path_of}
use Rattle.atspi_protocol.proofs.objects.examples.whole.properties.Goals as goal

pub returns-clause-get : goal.returns-clause-get
unfolding digits path_of
returns-clause-get c = refl

pub returns-clause-get_all : goal.returns-clause-get_all
unfolding digits path_of
returns-clause-get_all c = refl
