use Rattle.std.proofs.Common.{ap}
use Rattle.std.specs.Prelude.{codes, option_map}
use Rattle.atspi_tree_model.specs.News.{load}
use Rattle.atspi_tree_model.specs.Path.{path_of}
use Rattle.atspi_trace_lent.proofs.examples.messages.Goals as goal

pub returns-clause-load : goal.returns-clause-load
returns-clause-load c = λ e items view h. ap (option_map (λ all. load (path_of 0) (codes ":1.2") all)) h

pub returns-clause-no_items : goal.returns-clause-no_items
returns-clause-no_items c = λ e view h. ap (option_map (λ all. load (path_of 0) (codes ":1.2") all)) h
