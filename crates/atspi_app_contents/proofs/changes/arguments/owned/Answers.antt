use Rattle.std.proofs.Common.{◌≡◌, sym, ◌∙◌}
use Rattle.std.proofs.lemmas.Result.{IfOk-weaker}
use Rattle.std.proofs.lemmas.Str.{chars-nil}
use Rattle.atspi_types.specs.Kinds.{text}
use Rattle.atspi_types.specs.Data.{type_of}
use Rattle.atspi_marshal.specs.Reading.{input_of}
use Rattle.atspi_marshal_in_place.specs.Items.{item_data, item_kind}
use Rattle.atspi_message_in_place.proofs.ReadTypes.{item_type}
use Rattle.atspi_app_calls.proofs.OfReading.Reading.{not_text}
use Rattle.atspi_app_contents.proofs.changes.arguments.owned.Goals as goal

pub returns-in-None : goal.returns-in-None
returns-in-None c =
    let x = c.args.item in
    let kind : type_of (item_data x) ≡ item_kind x = item_type (input_of x.input) x.levels (item_kind x) x.bound x.at x.known in
    let other : type_of (item_data x) ≡ text → ⊥ = λ h. (let clash = c.in-None.ensures.is.1 (sym kind ∙ h) in absurd cc) in
    IfOk-weaker c.empty.result _ _ (λ y h. h ∙ sym chars-nil ∙ not_text (item_data x) other) c.empty.ensures
