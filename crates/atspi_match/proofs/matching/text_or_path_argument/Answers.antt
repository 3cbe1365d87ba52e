use Rattle.std.proofs.Common.{◌≡◌, ap, ◌∙◌}
use Rattle.std.specs.Prelude.{slice_get, option_copied}
use Rattle.atspi_types.specs.Kinds.{text, path}
use Rattle.atspi_marshal.specs.Reading.{input_of}
use Rattle.atspi_marshal_in_place.specs.Items.{item_data, item_kind, fields_data}
use Rattle.atspi_message_in_place.proofs.ReadTypes.{item_type}
use Rattle.atspi_match.proofs.Arguments.{text_or_path_found, neither_found}
use Rattle.atspi_match.proofs.matching.text_or_path_argument.Goals as goal

pub returns-in-Some : goal.returns-in-Some
returns-in-Some c =
    let x = c.in_ok-item.item in
    text_or_path_found (slice_get (fields_data c.args.m.now.body) c.args.index) (item_data x) c.as_bytes.result.now c.in-Some.text.now c.in_ok-item.ensures c.in-Some.ensures.text c.as_bytes.ensures.value c.as_bytes.ensures.utf8

pub returns-in_err-path : goal.returns-in_err-path
returns-in_err-path c =
    let x = c.in_ok-item.item in
    let other : item_kind x ≡ text → ⊥ = λ e. (let clash = c.in_default.ensures.is.1 e in absurd cc) in
    let neither : item_kind x ≡ path → ⊥ = λ e. (let clash = c.in_err-path.ensures.is.1 e in absurd cc) in
    ap option_copied c.from_residual-in_err-path.ensures
    ∙ neither_found (slice_get (fields_data c.args.m.now.body) c.args.index) (item_data x) (item_kind x) c.in_ok-item.ensures (item_type (input_of x.input) x.levels (item_kind x) x.bound x.at x.known) other neither
