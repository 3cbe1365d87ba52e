use Rattle.std.proofs.Common.{◌≡◌, sym, ◌∙◌}
use Rattle.atspi_types.specs.Kinds.{text}
use Rattle.atspi_types.specs.Data.{type_of}
use Rattle.atspi_marshal.specs.Reading.{input_of}
use Rattle.atspi_marshal_in_place.specs.Items.{item_data, item_kind, fields_data}
use Rattle.atspi_message_in_place.proofs.ReadTypes.{item_type}
use Rattle.atspi_launcher.proofs.Reading.{no_text}
use Rattle.atspi_launcher.proofs.asking.next_text.Goals as goal

pub returns-in-None-text : goal.returns-in-None-text
returns-in-None-text c =
    let x = c.in-Some.item in
    let kind : type_of (item_data x) ≡ item_kind x = item_type (input_of x.input) x.levels (item_kind x) x.bound x.at x.known in
    let other : type_of (item_data x) ≡ text → ⊥ = λ h. (let clash = c.in-None-text.ensures.is.1 (sym kind ∙ h) in absurd cc) in
    no_text (fields_data c.args.values.now) (fields_data c.next.new.self) (item_data x) c.in-Some.ensures.comes other
