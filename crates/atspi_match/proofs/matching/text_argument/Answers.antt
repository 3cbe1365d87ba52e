use Rattle.std.proofs.Common.{◌≡◌, ap, ◌∙◌}
use Rattle.std.specs.Prelude.{slice_get, option_copied}
use Rattle.atspi_types.specs.Kinds.{text}
use Rattle.atspi_marshal.specs.Reading.{input_of}
use Rattle.atspi_marshal_in_place.specs.Items.{item_data, item_kind, fields_data}
use Rattle.atspi_message_in_place.proofs.ReadTypes.{item_type}
use Rattle.atspi_match.proofs.Arguments.{text_found, none_found}
use Rattle.atspi_match.proofs.matching.text_argument.Goals as goal

pub returns : goal.returns
returns c =
    let x = c.in_ok-argument.field-0 in
    text_found (slice_get (fields_data c.args.m.now.body) c.args.index) (item_data x) c.as_bytes.result.now c.in_ok-text.text.now c.in_ok-argument.ensures c.in_ok-text.ensures.text c.as_bytes.ensures.value c.as_bytes.ensures.utf8

pub returns-in_err-text : goal.returns-in_err-text
returns-in_err-text c =
    let x = c.in_ok-argument.field-0 in
    let other : item_kind x ≡ text → ⊥ = λ e. (let clash = c.in_err-text.ensures.is.1 e in absurd cc) in
    ap option_copied c.from_residual-in_err-text.ensures
    ∙ none_found (slice_get (fields_data c.args.m.now.body) c.args.index) (item_data x) (item_kind x) c.in_ok-argument.ensures (item_type (input_of x.input) x.levels (item_kind x) x.bound x.at x.known) other
