use Rattle.std.proofs.Common.{ap, ◌∙◌}
use Rattle.std.specs.Prelude.{◌/◌}
use Rattle.atspi_types.specs.DataView.{data_of}
use Rattle.atspi_app_answers.proofs.Telling.{is_row_count}
use Rattle.atspi_app_answers.proofs.properties.row_count_of.Goals as goal

pub returns : goal.returns
returns c = is_row_count c.args.tree.now c.args.bus.now c.args.id.now c.args.counts c.args.node (data_of c.counted.result) c.whole_rows.result (c.whole_rows.ensures ∙ ap (λ m. m / c.args.counts.columns) c.child_count.ensures.count) c.counted.ensures
