use Rattle.std.proofs.Common.{ap, ◌∙◌, w32, SFits, rules}
use Rattle.std.proofs.lemmas.Int.{to_z-of_z}
use Rattle.std.proofs.lemmas.Result.{IfOk-weaker}
use Rattle.atspi_types.specs.DataView.{all_data}
use Rattle.atspi_marshal_in_place.specs.Items.{fields_data}
use Rattle.std.proofs.Common.{[], ◌∷◌}
use Rattle.atspi_types.specs.Data.{Data}
use Rattle.atspi_app_contents.proofs.OfAnswers.Telling.{tells_part}
use Rattle.atspi_app_contents.proofs.answers.text.get_text.Goals as goal

pub returns : goal.returns
returns g c =
    let first : SFits w32 c.first_signed.result = search rules in
    let at = to_z-of_z w32 c.first_signed.result first ∙ c.first_signed.ensures in
    let second : SFits w32 c.second_signed.result = search rules in
    let to = to_z-of_z w32 c.second_signed.result second ∙ c.second_signed.ensures in
    IfOk-weaker c.one.result _ _
    (λ vs h. tells_part (g.C.Face.nodes c.args.texts.now) c.args.node (fields_data c.args.args) (all_data vs) _ _ at to (h ∙ ap (λ (d : Data). d ∷ []) c.in_ok-value.ensures))
    c.one.ensures
