use Rattle.std.proofs.Common.{refl}
use Rattle.atspi_tree_model.specs.Path.{path_of}
use Rattle.atspi_trace_examples.proofs.trace.causes.said_one_by_one.Goals as goal

pub returns-clause-behind_step : goal.returns-clause-behind_step
unfolding lib.Utf8.encode path_of
returns-clause-behind_step c = refl
