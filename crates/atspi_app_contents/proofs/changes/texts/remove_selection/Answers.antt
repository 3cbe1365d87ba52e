use Rattle.std.proofs.Common.{Some, None, refl, sym, ap, ◌∙◌, w32, SFits, rules}
use Rattle.std.proofs.lemmas.Int.{to_z-of_z}
use Rattle.std.proofs.lemmas.Result.{IfOk-weaker}
use Rattle.atspi_marshal_in_place.specs.Items.{fields_data}
use Rattle.atspi_app_contents.specs.values.Places.{place_of}
use Rattle.std.proofs.Common.{List, ℕ}
use Rattle.atspi_app_contents.specs.changes.inner.Steps.{removed}
use Rattle.atspi_app_contents.proofs.OfChanges.Changed.{removes_selection}
use Rattle.atspi_app_contents.proofs.changes.texts.remove_selection.Goals as goal

pub returns-in-Some : goal.returns-in-Some
returns-in-Some c =
    let first : SFits w32 c.first_signed.result = search rules in
    let at_first = to_z-of_z w32 c.first_signed.result first ∙ c.first_signed.ensures in
    IfOk-weaker c.removed.result _ _
    (λ steps h t. removes_selection t c.args.known.now c.args.node (fields_data c.args.args) steps (Some c.in-Some.index) (sym c.in-Some.is ∙ c.place_of.ensures ∙ ap place_of at_first) (h ∙ ap (λ (l : List (ℕ × ℕ)). removed c.args.node l c.in-Some.index) c.known_marks.ensures))
    c.removed.ensures

pub returns-in-None : goal.returns-in-None
returns-in-None c = λ t.
    let first : SFits w32 c.first_signed.result = search rules in
    let at_first = to_z-of_z w32 c.first_signed.result first ∙ c.first_signed.ensures in
    removes_selection t c.args.known.now c.args.node (fields_data c.args.args) None None (sym c.in-None.is ∙ c.place_of.ensures ∙ ap place_of at_first) refl
