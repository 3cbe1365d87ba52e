use Rattle.std.proofs.Common.{◌≡◌, sym, ap, ◌∙◌}
use Rattle.atspi_types.specs.Kinds.{text}
use Rattle.atspi_types.specs.Data.{type_of}
use Rattle.atspi_marshal.specs.Reading.{input_of}
use Rattle.atspi_marshal_in_place.specs.Items.{item_data, item_kind, fields_data}
use Rattle.atspi_message_in_place.proofs.ReadTypes.{item_type}
use Rattle.atspi_app_known.specs.starting.inner.Lent.{chars_or_none}
use Rattle.atspi_app_known.proofs.OfStarting.Unique.{wrong_text}
use Rattle.atspi_app_known.proofs.starting.name.unique_name.Goals as goal

pub returns-in_err-text-clause-name : goal.returns-in_err-text-clause-name
returns-in_err-text-clause-name c =
    let x = c.in_ok-next.field-0 in
    let kind : type_of (item_data x) ≡ item_kind x = item_type (input_of x.input) x.levels (item_kind x) x.bound x.at x.known in
    let other : type_of (item_data x) ≡ text → ⊥ = λ h. (let clash = c.in_err-text.ensures.is.1 (sym kind ∙ h) in absurd cc) in
    ap chars_or_none c.from_residual-in_err-text.ensures
    ∙ sym (wrong_text (fields_data c.args.values) (fields_data c.next.new.self) (item_data x) c.in_ok-next.ensures.comes other)
