use Rattle.std.proofs.Common.{ap, ◌∙◌}
use Rattle.std.proofs.Common.{ℕ, List, length, ◌/◌}
use Rattle.atspi_protocol.specs.objects.Values.{count_data}
use Rattle.atspi_app_contents.specs.values.Seen.{faces_of}
use Rattle.atspi_tree.specs.TreeShape.{children_of}
use Rattle.atspi_app_contents.proofs.OfAnswers.Telling.{is_row_count}
use Rattle.atspi_app_contents.proofs.answers.properties.rows.Goals as goal

pub returns : goal.returns
returns g c = λ texts actions name.
    is_row_count c.args.tree.now (faces_of texts (g.G.Face.nodes c.args.columns.now) actions) name c.args.node _
    (c.count.ensures ∙ ap count_data (c.row_count.ensures ∙ ap (λ (k : ℕ). k / c.column_count-columns.result) (ap (λ (l : List ℕ). length l) c.cells_of.ensures.are) ∙ ap (λ (k : ℕ). length (children_of c.args.node c.args.tree.now) / k) c.column_count-columns.ensures))
