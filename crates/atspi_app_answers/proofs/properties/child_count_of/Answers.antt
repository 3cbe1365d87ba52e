use Rattle.atspi_types.specs.DataView.{data_of}
use Rattle.atspi_app_answers.proofs.Telling.{is_child_count}
use Rattle.atspi_app_answers.proofs.properties.child_count_of.Goals as goal

pub returns : goal.returns
returns c = is_child_count c.args.tree.now c.args.bus.now c.args.id.now c.args.counts c.args.node (data_of c.counted.result) c.child_count.result c.child_count.ensures.count c.counted.ensures
