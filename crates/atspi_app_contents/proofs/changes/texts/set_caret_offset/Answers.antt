use Rattle.std.proofs.Common.{Some, None, refl, sym, ap, ◌∙◌, w32, SFits, rules}
use Rattle.std.proofs.lemmas.Int.{to_z-of_z}
use Rattle.std.proofs.lemmas.Result.{IfOk-weaker}
use Rattle.atspi_marshal_in_place.specs.Items.{fields_data}
use Rattle.atspi_app_contents.specs.values.Places.{place_of}
use Rattle.atspi_app_contents.proofs.OfChanges.Changed.{sets_caret}
use Rattle.atspi_app_contents.proofs.changes.texts.set_caret_offset.Goals as goal

pub returns-in-Some : goal.returns-in-Some
returns-in-Some c =
    let first : SFits w32 c.first_signed.result = search rules in
    let at_first = to_z-of_z w32 c.first_signed.result first ∙ c.first_signed.ensures in
    IfOk-weaker c.granted.result _ _ (λ steps h. sets_caret c.args.tree.now c.args.known.now c.args.node (fields_data c.args.args) steps (Some c.in-Some.at) (sym c.in-Some.is ∙ c.place.ensures ∙ ap place_of at_first) h) c.granted.ensures

pub returns-in-None : goal.returns-in-None
returns-in-None c =
    let first : SFits w32 c.first_signed.result = search rules in
    let at_first = to_z-of_z w32 c.first_signed.result first ∙ c.first_signed.ensures in
    sets_caret c.args.tree.now c.args.known.now c.args.node (fields_data c.args.args) None None (sym c.in-None.is ∙ c.place.ensures ∙ ap place_of at_first) refl
