use Rattle.std.proofs.Common.{◌≡◌, sym, ap, subst, ◌∙◌, Some}
use Rattle.atspi_types.specs.Kinds.{variant}
use Rattle.atspi_types.specs.Data.{type_of}
use Rattle.atspi_marshal.specs.Reading.{input_of}
use Rattle.atspi_marshal_in_place.specs.Items.{item_data, item_kind}
use Rattle.atspi_message_in_place.proofs.ReadTypes.{item_type}
use Rattle.atspi_protocol.specs.members.Arguments.{value_in}
use Rattle.atspi_app_calls.specs.reading.Arguments.{IsSigned}
use Rattle.atspi_app_calls.proofs.OfReading.Reading.{not_variant, signed_is}
use Rattle.atspi_app_calls.proofs.reading.arguments.set_signed_of.Goals as goal

pub returns-in_default : goal.returns-in_default
returns-in_default c =
    let x = c.args.item in
    let kind : type_of (item_data x) ≡ item_kind x = item_type (input_of x.input) x.levels (item_kind x) x.bound x.at x.known in
    let other : type_of (item_data x) ≡ variant → ⊥ = λ h. (let clash = c.in_default.ensures.is.1 (sym kind ∙ h) in absurd cc) in
    not_variant (item_data x) other

pub returns : goal.returns
returns c =
    let y = c.in-Some.inner in
    let kind : type_of (item_data y) ≡ item_kind y = item_type (input_of y.input) y.levels (item_kind y) y.bound y.at y.known in
    subst (IsSigned c.i32.result) (sym (ap (λ d. value_in (Some d)) c.in-Some.ensures.value)) (signed_is c.i32.result (item_data y) (item_kind y) kind c.i32.ensures.is c.i32.ensures.value)
