use Rattle.std.proofs.lemmas.Result.{IfOk-weaker}
use Rattle.atspi_types.specs.DataView.{data_of}
use Rattle.atspi_app_answers.proofs.Telling.{is_name}
use Rattle.atspi_app_answers.proofs.properties.name_of.Goals as goal

pub returns : goal.returns
returns c = IfOk-weaker c.text.result _ _ (λ v h. is_name c.args.tree.now c.args.bus.now c.args.id.now c.args.counts c.args.node (data_of v) c.name.result.now c.name.ensures h) c.text.ensures
