use Rattle.std.proofs.Common.{[], ◌∷◌, ap, ◌∙◌}
use Rattle.std.proofs.lemmas.Result.{IfOk-weaker}
use Rattle.atspi_types.specs.Data.{Data}
use Rattle.atspi_app_answers.proofs.answers.items_values.Goals as goal

pub returns : goal.returns
returns c = IfOk-weaker c.one.result _ _ (λ v h a is name. h ∙ ap (λ (d : Data). d ∷ []) (c.in_ok-value.ensures a is name)) c.one.ensures
