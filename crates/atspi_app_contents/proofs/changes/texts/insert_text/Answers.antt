use Rattle.std.proofs.Common.{Some, None, refl, sym, ap, ◌∙◌, w32, SFits, rules}
use Rattle.std.proofs.lemmas.Int.{to_z-of_z}
use Rattle.std.proofs.lemmas.Result.{IfOk-weaker}
use Rattle.atspi_marshal_in_place.specs.Items.{fields_data}
use Rattle.atspi_app_contents.specs.values.Places.{place_of}
use Rattle.std.proofs.Common.{List, ℕ}
use Rattle.atspi_tree_model.specs.declared.edit.Edit.TheVariants.{Put}
use Rattle.atspi_tree_edits.specs.Answers.{edit_steps}
use Rattle.atspi_app_contents.specs.changes.inner.Steps.{granted}
use Rattle.atspi_app_contents.proofs.OfChanges.Changed.{inserts_text}
use Rattle.atspi_app_contents.proofs.changes.texts.insert_text.Goals as goal

pub returns-in_default : goal.returns-in_default
returns-in_default c =
    let first : SFits w32 c.first_signed.result = search rules in
    let at_first = to_z-of_z w32 c.first_signed.result first ∙ c.first_signed.ensures in
    inserts_text c.args.tree.now c.args.known.now c.args.node (fields_data c.args.args) None None (sym c.in_default.is ∙ c.place.ensures ∙ ap place_of at_first) refl

pub returns : goal.returns
returns c =
    let first : SFits w32 c.first_signed.result = search rules in
    let at_first = to_z-of_z w32 c.first_signed.result first ∙ c.first_signed.ensures in
    IfOk-weaker c.granted.result _ _
    (λ steps h. inserts_text c.args.tree.now c.args.known.now c.args.node (fields_data c.args.args) steps (Some c.in-Some.at) (sym c.in-Some.is ∙ c.place.ensures ∙ ap place_of at_first) (h ∙ ap (λ (l : List ℕ). granted (edit_steps c.args.tree.now c.args.known.now (Put c.args.node c.in-Some.at l))) c.in_ok-text.ensures))
    c.granted.ensures
