use Rattle.std.proofs.lemmas.Result.{IfOk-weaker}
use Rattle.atspi_types.specs.DataView.{data_of}
use Rattle.atspi_app_contents.proofs.OfAnswers.Telling.{tells_no_description}
use Rattle.atspi_app_contents.proofs.answers.actions.get_description.Goals as goal

pub returns : goal.returns
returns c = IfOk-weaker c.literal.result _ _ (λ v h actions n body. tells_no_description actions n body (data_of v) h) c.literal.ensures
