use Rattle.std.proofs.Common.{ap, ◌∙◌, w32, SFits, rules}
use Rattle.std.proofs.lemmas.Int.{to_z-of_z}
use Rattle.std.proofs.lemmas.Result.{IfOk-weaker}
use Rattle.atspi_types.specs.DataView.{data_of}
use Rattle.atspi_marshal_in_place.specs.Items.{fields_data}
use Rattle.atspi_app_values.specs.Numbers.{numbered_or_null}
use Rattle.atspi_app_contents.specs.values.Places.{place_of}
use Rattle.atspi_app_contents.proofs.OfAnswers.Telling.{tells_selected_child}
use Rattle.atspi_app_contents.proofs.answers.selection.get_selected_child.Goals as goal

pub returns : goal.returns
returns c =
    let first : SFits w32 c.first_signed.result = search rules in
    let at_first = to_z-of_z w32 c.first_signed.result first ∙ c.first_signed.ensures in
    IfOk-weaker c.reference_or_null.result _ _
    (λ v h. tells_selected_child c.args.tree.now c.is_lawful.ensures c.args.bus.now c.args.node (fields_data c.args.args) (data_of v) c.place_of-place.result (c.place_of-place.ensures ∙ ap place_of at_first) (h ∙ ap (numbered_or_null c.args.bus.now) c.selected_child.ensures))
    c.reference_or_null.ensures
