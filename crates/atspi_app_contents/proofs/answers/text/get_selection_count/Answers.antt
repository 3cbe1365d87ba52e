use Rattle.std.proofs.Common.{ap, ◌∙◌}
use Rattle.std.proofs.lemmas.Result.{IfOk-weaker}
use Rattle.atspi_types.specs.DataView.{all_data}
use Rattle.std.proofs.Common.{[], ◌∷◌}
use Rattle.atspi_types.specs.Data.{Data}
use Rattle.atspi_app_contents.proofs.OfAnswers.Telling.{tells_selection_count}
use Rattle.atspi_app_contents.proofs.answers.text.get_selection_count.Goals as goal

pub returns : goal.returns
returns g c =
    IfOk-weaker c.one.result _ _
    (λ vs h body. tells_selection_count (g.C.Face.nodes c.args.texts.now) c.args.node body (all_data vs) (h ∙ ap (λ (d : Data). d ∷ []) c.in_ok-value.ensures))
    c.one.ensures
