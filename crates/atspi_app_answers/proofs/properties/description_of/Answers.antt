use Rattle.std.proofs.lemmas.Result.{IfOk-weaker}
use Rattle.atspi_types.specs.DataView.{data_of}
use Rattle.atspi_app_answers.proofs.Telling.{is_description}
use Rattle.atspi_app_answers.proofs.properties.description_of.Goals as goal

pub returns : goal.returns
returns c = IfOk-weaker c.text.result _ _ (λ v h. is_description c.args.tree.now c.args.bus.now c.args.id.now c.args.counts c.args.node (data_of v) c.description.result.now c.description.ensures h) c.text.ensures
