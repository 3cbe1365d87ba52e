use Rattle.std.proofs.Common.{ap, ◌∙◌, w32, SFits, rules}
use Rattle.std.proofs.lemmas.Int.{to_z-of_z}
use Rattle.std.proofs.lemmas.Result.{IfOk-weaker}
use Rattle.atspi_marshal_in_place.specs.Items.{fields_data}
use Rattle.atspi_app_contents.specs.values.Places.{place_of}
use Rattle.atspi_app_contents.specs.changes.inner.Steps.{unchosen}
use Rattle.atspi_app_contents.proofs.OfChanges.Changed.{deselects_selected}
use Rattle.atspi_app_contents.proofs.changes.children.deselect_selected_child.Goals as goal

pub returns : goal.returns
returns c =
    let first : SFits w32 c.first_signed.result = search rules in
    let at_first = to_z-of_z w32 c.first_signed.result first ∙ c.first_signed.ensures in
    IfOk-weaker c.unchosen.result _ _ (λ steps h. deselects_selected c.args.tree.now c.is_lawful.ensures c.args.node (fields_data c.args.args) steps c.place_of-place.result (c.place_of-place.ensures ∙ ap place_of at_first) (h ∙ ap unchosen c.selected_child.ensures)) c.unchosen.ensures
