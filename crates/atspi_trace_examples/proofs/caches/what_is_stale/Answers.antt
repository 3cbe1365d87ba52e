use Rattle.std.proofs.Common.{refl}
use Rattle.atspi_tree_model.specs.Path.{path_of}
use lib.Utf8.{encode}
use Rattle.atspi_trace_examples.proofs.caches.what_is_stale.Goals as goal

pub returns-clause-had : goal.returns-clause-had
unfolding encode path_of
returns-clause-had c = refl

pub returns-clause-is : goal.returns-clause-is
unfolding encode path_of
returns-clause-is c = refl
