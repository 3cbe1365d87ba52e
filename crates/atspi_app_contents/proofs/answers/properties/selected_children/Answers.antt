use Rattle.std.proofs.Common.{ap, ◌∙◌}
use Rattle.std.proofs.Common.{ℕ, List, length}
use Rattle.atspi_protocol.specs.objects.Values.{count_data}
use Rattle.atspi_app_contents.specs.values.Numbers.{selected_among}
use Rattle.atspi_app_contents.proofs.OfAnswers.Telling.{is_selected_count}
use Rattle.atspi_app_contents.proofs.answers.properties.selected_children.Goals as goal

pub returns : goal.returns
returns c = λ faces name.
    is_selected_count c.args.tree.now faces name c.args.node _ c.cells_of.ensures.lawful
    (c.count.ensures ∙ ap count_data (c.selected_count.ensures.count ∙ ap (λ (l : List ℕ). length (selected_among c.args.tree.now.rows l)) c.cells_of.ensures.are))
