use Rattle.std.proofs.Common.{◌≡◌, sym, ◌∙◌}
use Rattle.atspi_types.specs.Kinds.{u32, number}
use Rattle.atspi_types.specs.Data.{type_of}
use Rattle.atspi_marshal.specs.Reading.{input_of}
use Rattle.atspi_marshal_in_place.specs.Items.{item_data, item_kind}
use Rattle.atspi_message_in_place.proofs.ReadTypes.{item_type}
use Rattle.atspi_app_calls.proofs.OfReading.Reading.{not_unsigned}
use Rattle.atspi_app_calls.proofs.reading.arguments.unsigned_of.Goals as goal

pub returns : goal.returns
returns c =
    let x = c.args.item in
    let kind : type_of (item_data x) ≡ item_kind x = item_type (input_of x.input) x.levels (item_kind x) x.bound x.at x.known in
    let other : type_of (item_data x) ≡ number u32 → ⊥ = λ h. (let clash = c.in_default.ensures.is.1 (sym kind ∙ h) in absurd cc) in
    not_unsigned (item_data x) other
