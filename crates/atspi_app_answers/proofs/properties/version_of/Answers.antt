use Rattle.std.proofs.lemmas.Result.{IfOk-weaker}
use Rattle.atspi_types.specs.DataView.{data_of}
use Rattle.atspi_app_answers.proofs.Telling.{is_version}
use Rattle.atspi_app_answers.proofs.properties.version_of.Goals as goal

pub returns : goal.returns
returns c = IfOk-weaker c.literal.result _ _ (λ v h. is_version c.args.tree.now c.args.bus.now c.args.id.now c.args.counts c.args.node (data_of v) h) c.literal.ensures
