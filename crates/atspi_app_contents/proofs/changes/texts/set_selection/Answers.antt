use Rattle.std.proofs.Common.{Some, None, refl, sym, ap, ◌∙◌, w32, SFits, rules}
use Rattle.std.proofs.lemmas.Int.{to_z-of_z}
use Rattle.std.proofs.lemmas.Result.{IfOk-weaker}
use Rattle.atspi_marshal_in_place.specs.Items.{fields_data}
use Rattle.atspi_app_contents.specs.values.Places.{place_of}
use Rattle.atspi_tree_model.specs.Edits.{known_text}
use Rattle.atspi_protocol.specs.members.Arguments.{signed_at}
use Rattle.atspi_app_contents.proofs.OfChanges.Changed.{no_index, no_from, sets_selection}
use Rattle.atspi_app_contents.proofs.changes.texts.set_selection.Goals as goal

pub returns-in_default : goal.returns-in_default
returns-in_default c = λ t.
    let first : SFits w32 c.first_signed.result = search rules in
    let at_first = to_z-of_z w32 c.first_signed.result first ∙ c.first_signed.ensures in
    sets_selection t c.args.known.now c.args.node (fields_data c.args.args) None None (place_of (signed_at 1 (fields_data c.args.args))) (place_of (signed_at 2 (fields_data c.args.args))) (sym c.in_default.is ∙ c.place_of.ensures ∙ ap place_of at_first) refl refl (no_index c.args.node (known_text c.args.known.now) (place_of (signed_at 1 (fields_data c.args.args))) (place_of (signed_at 2 (fields_data c.args.args))))

pub returns-in_default-place : goal.returns-in_default-place
returns-in_default-place c = λ t.
    let first : SFits w32 c.first_signed.result = search rules in
    let at_first = to_z-of_z w32 c.first_signed.result first ∙ c.first_signed.ensures in
    let second : SFits w32 c.second_signed.result = search rules in
    let at_second = to_z-of_z w32 c.second_signed.result second ∙ c.second_signed.ensures in
    sets_selection t c.args.known.now c.args.node (fields_data c.args.args) None (Some c.in-Some.index) None (place_of (signed_at 2 (fields_data c.args.args))) (sym c.in-Some.is ∙ c.place_of.ensures ∙ ap place_of at_first) (sym c.in_default-place.is ∙ c.place.ensures ∙ ap place_of at_second) refl (no_from c.args.node (known_text c.args.known.now) c.in-Some.index (place_of (signed_at 2 (fields_data c.args.args))))

pub returns-in_default-place-2 : goal.returns-in_default-place-2
returns-in_default-place-2 c = λ t.
    let first : SFits w32 c.first_signed.result = search rules in
    let at_first = to_z-of_z w32 c.first_signed.result first ∙ c.first_signed.ensures in
    let second : SFits w32 c.second_signed.result = search rules in
    let at_second = to_z-of_z w32 c.second_signed.result second ∙ c.second_signed.ensures in
    let third : SFits w32 c.third_signed.result = search rules in
    let at_third = to_z-of_z w32 c.third_signed.result third ∙ c.third_signed.ensures in
    sets_selection t c.args.known.now c.args.node (fields_data c.args.args) None (Some c.in-Some.index) (Some c.in-Some-place.from) None (sym c.in-Some.is ∙ c.place_of.ensures ∙ ap place_of at_first) (sym c.in-Some-place.is ∙ c.place.ensures ∙ ap place_of at_second)
    (sym c.in_default-place-2.is ∙ c.place-2.ensures ∙ ap place_of at_third) refl

pub returns : goal.returns
returns c =
    let first : SFits w32 c.first_signed.result = search rules in
    let at_first = to_z-of_z w32 c.first_signed.result first ∙ c.first_signed.ensures in
    let second : SFits w32 c.second_signed.result = search rules in
    let at_second = to_z-of_z w32 c.second_signed.result second ∙ c.second_signed.ensures in
    let third : SFits w32 c.third_signed.result = search rules in
    let at_third = to_z-of_z w32 c.third_signed.result third ∙ c.third_signed.ensures in
    IfOk-weaker c.replaced.result _ _
    (λ steps h t. sets_selection t c.args.known.now c.args.node (fields_data c.args.args) steps (Some c.in-Some.index) (Some c.in-Some-place.from) (Some c.in-Some-place-2.to) (sym c.in-Some.is ∙ c.place_of.ensures ∙ ap place_of at_first) (sym c.in-Some-place.is ∙ c.place.ensures ∙ ap place_of at_second)
    (sym c.in-Some-place-2.is ∙ c.place-2.ensures ∙ ap place_of at_third) h)
    c.replaced.ensures
