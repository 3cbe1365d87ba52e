use Rattle.atspi_types.specs.DataView.{data_of}
use Rattle.atspi_app_answers.proofs.Telling.{is_selected_count}
use Rattle.atspi_app_answers.proofs.properties.selected_count_of.Goals as goal

pub returns : goal.returns
returns c = is_selected_count c.args.tree.now c.args.bus.now c.args.id.now c.args.counts c.args.node (data_of c.counted.result) c.selected_count.result c.selected_count.ensures c.is_lawful.ensures c.counted.ensures
