use Rattle.std.proofs.Common.{◌≡◌}
use Rattle.atspi_types.specs.DataView.{all_data}
use Rattle.atspi_tree.specs.TreeShape.{row_of}
use Rattle.atspi_app_values.specs.Relations.{relations_among}
use Rattle.atspi_app_values.proofs.RelationLemmas.{below}
use Rattle.atspi_app_values.proofs.relations.relations_of.Given as goal

abbrev pub invariant-loop-kind : goal.invariant-loop-kind
invariant-loop-kind l = all_data l.relations ≡ relations_among l.bus (row_of l.node l.tree) (below l.kind)
