use Rattle.std.proofs.Common.{Some, None, refl, sym, ap, ◌∙◌, w32, SFits, rules}
use Rattle.std.proofs.lemmas.Int.{to_z-of_z}
use Rattle.std.proofs.lemmas.Result.{IfOk-weaker}
use Rattle.atspi_marshal_in_place.specs.Items.{fields_data}
use Rattle.atspi_app_contents.specs.values.Places.{place_of}
use Rattle.atspi_protocol.specs.members.Arguments.{signed_at}
use Rattle.atspi_tree_model.specs.declared.edit.Edit.TheVariants.{Mark}
use Rattle.atspi_tree_edits.specs.Answers.{edit_steps}
use Rattle.atspi_app_contents.specs.changes.inner.Steps.{granted}
use Rattle.atspi_app_contents.proofs.OfChanges.Changed.{no_first, adds_selection}
use Rattle.atspi_app_contents.proofs.changes.texts.add_selection.Goals as goal

pub returns-in_default : goal.returns-in_default
returns-in_default c =
    let first : SFits w32 c.first_signed.result = search rules in
    let at_first = to_z-of_z w32 c.first_signed.result first ∙ c.first_signed.ensures in
    adds_selection c.args.tree.now c.args.known.now c.args.node (fields_data c.args.args) None None (place_of (signed_at 1 (fields_data c.args.args))) (sym c.in_default.is ∙ c.place.ensures ∙ ap place_of at_first) refl (no_first (λ k l. granted (edit_steps c.args.tree.now c.args.known.now (Mark c.args.node k l))) (place_of (signed_at 1 (fields_data c.args.args))))

pub returns-in_default-place : goal.returns-in_default-place
returns-in_default-place c =
    let first : SFits w32 c.first_signed.result = search rules in
    let at_first = to_z-of_z w32 c.first_signed.result first ∙ c.first_signed.ensures in
    let second : SFits w32 c.second_signed.result = search rules in
    let at_second = to_z-of_z w32 c.second_signed.result second ∙ c.second_signed.ensures in
    adds_selection c.args.tree.now c.args.known.now c.args.node (fields_data c.args.args) None (Some c.in-Some.from) None (sym c.in-Some.is ∙ c.place.ensures ∙ ap place_of at_first) (sym c.in_default-place.is ∙ c.place-2.ensures ∙ ap place_of at_second) refl

pub returns : goal.returns
returns c =
    let first : SFits w32 c.first_signed.result = search rules in
    let at_first = to_z-of_z w32 c.first_signed.result first ∙ c.first_signed.ensures in
    let second : SFits w32 c.second_signed.result = search rules in
    let at_second = to_z-of_z w32 c.second_signed.result second ∙ c.second_signed.ensures in
    IfOk-weaker c.granted.result _ _
    (λ steps h. adds_selection c.args.tree.now c.args.known.now c.args.node (fields_data c.args.args) steps (Some c.in-Some.from) (Some c.in-Some-place.to) (sym c.in-Some.is ∙ c.place.ensures ∙ ap place_of at_first) (sym c.in-Some-place.is ∙ c.place-2.ensures ∙ ap place_of at_second) h)
    c.granted.ensures
