use Rattle.std.proofs.lemmas.Result.{IfOk-weaker}
use Rattle.atspi_types.specs.DataView.{data_of}
use Rattle.atspi_app_contents.proofs.OfAnswers.Telling.{tells_actions}
use Rattle.atspi_app_contents.proofs.answers.actions.get_actions.Goals as goal

pub returns : goal.returns
returns g c = IfOk-weaker c.action_list.result _ _ (λ v h body. tells_actions (g.D.Face.nodes c.args.actions.now) c.args.node body (data_of v) h) c.action_list.ensures
