use Rattle.std.proofs.Common.{◌∙◌, w32, SFits, rules}
use Rattle.std.proofs.lemmas.Int.{to_z-of_z}
use Rattle.std.proofs.lemmas.Result.{IfOk-weaker}
use Rattle.atspi_types.specs.DataView.{data_of}
use Rattle.atspi_marshal_in_place.specs.Items.{fields_data}
use Rattle.atspi_app_contents.proofs.OfAnswers.Telling.{tells_name}
use Rattle.atspi_app_contents.proofs.answers.actions.get_name.Goals as goal

pub returns : goal.returns
returns g c =
    let first : SFits w32 c.first_signed.result = search rules in
    let at = to_z-of_z w32 c.first_signed.result first ∙ c.first_signed.ensures in
    IfOk-weaker c.action_name.result _ _ (λ v h. tells_name (g.D.Face.nodes c.args.actions.now) c.args.node (fields_data c.args.args) (data_of v) _ at h) c.action_name.ensures
