use Rattle.atspi_types.specs.DataView.{data_of}
use Rattle.atspi_app_answers.proofs.Telling.{is_column_count}
use Rattle.atspi_app_answers.proofs.properties.column_count_of.Goals as goal

pub returns : goal.returns
returns c = is_column_count c.args.tree.now c.args.bus.now c.args.id.now c.args.counts c.args.node (data_of c.counted.result) c.counted.ensures
