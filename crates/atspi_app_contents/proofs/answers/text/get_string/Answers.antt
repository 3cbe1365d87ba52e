use Rattle.std.proofs.Common.{ap, ◌∙◌, w32, SFits, to_z, of_z, rules}
use Rattle.std.proofs.lemmas.Int.{to_z-of_z}
use Rattle.std.proofs.lemmas.Result.{IfOk-weaker}
use Rattle.atspi_types.specs.DataView.{all_data}
use Rattle.atspi_marshal_in_place.specs.Items.{fields_data}
use Rattle.atspi_protocol.specs.objects.Texts.{piece_there, piece_data}
use Rattle.atspi_app_contents.specs.texts.Texts.{text_at}
use Rattle.atspi_app_contents.proofs.OfAnswers.Telling.{tells_piece}
use Rattle.atspi_app_contents.proofs.answers.text.get_string.Goals as goal

pub returns : goal.returns
returns g c =
    let first : SFits w32 c.first_signed.result = search rules in
    let place = to_z-of_z w32 c.first_signed.result first ∙ c.first_signed.ensures in
    let texts = g.C.Face.nodes c.args.texts.now in
    IfOk-weaker c.piece.result _ _
    (λ vs h. tells_piece texts c.args.node (fields_data c.args.args) (all_data vs) _ _ place c.second_unsigned.ensures
    (h ∙ ap (λ u. piece_data (piece_there u (text_at texts c.args.node).characters (to_z w32 (of_z w32 c.first_signed.result)))) c.grain_of.ensures))
    c.piece.ensures
