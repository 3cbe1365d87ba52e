use Rattle.std.proofs.Common.{refl}
use Rattle.atspi_tree_model.specs.Path.{path_of}
use lib.Utf8.{encode}
use Rattle.atspi_trace_examples.proofs.caches.what_is_kept.Goals as goal

pub returns-clause-before : goal.returns-clause-before
unfolding encode path_of
returns-clause-before c = refl

pub returns-clause-loaded : goal.returns-clause-loaded
unfolding encode path_of
returns-clause-loaded c = refl

pub returns-clause-not_taken : goal.returns-clause-not_taken
unfolding encode path_of
returns-clause-not_taken c = refl

pub returns-clause-taken : goal.returns-clause-taken
unfolding encode path_of
returns-clause-taken c = refl

pub returns-clause-last : goal.returns-clause-last
unfolding encode path_of
returns-clause-last c = refl

pub returns-clause-ended : goal.returns-clause-ended
unfolding encode path_of
returns-clause-ended c = refl

pub returns-clause-other : goal.returns-clause-other
unfolding encode path_of
returns-clause-other c = refl

pub returns-clause-other_name : goal.returns-clause-other_name
unfolding encode path_of
returns-clause-other_name c = refl
