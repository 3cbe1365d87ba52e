use Rattle.std.proofs.lemmas.Result.{IfOk-weaker}
use Rattle.atspi_types.specs.DataView.{data_of}
use Rattle.atspi_app_answers.proofs.Telling.{is_id_text}
use Rattle.atspi_app_answers.proofs.properties.accessible_id_of.Goals as goal

pub returns : goal.returns
returns c = IfOk-weaker c.decimal_text.result _ _ (λ v h. is_id_text c.args.tree.now c.args.bus.now c.args.id.now c.args.counts c.args.node (data_of v) h) c.decimal_text.ensures
