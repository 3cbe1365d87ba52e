use Rattle.atspi_types.specs.DataView.{data_of}
use Rattle.atspi_app_answers.proofs.Telling.{is_action_count}
use Rattle.atspi_app_answers.proofs.properties.action_count_of.Goals as goal

pub returns : goal.returns
returns c = is_action_count c.args.tree.now c.args.bus.now c.args.id.now c.args.counts c.args.node (data_of c.counted.result) c.counted.ensures
