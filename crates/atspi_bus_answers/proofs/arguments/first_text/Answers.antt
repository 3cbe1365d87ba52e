use Rattle.std.proofs.Common.{◌≡◌, sym, ap, ◌∙◌}
use Rattle.atspi_types.specs.Kinds.{text}
use Rattle.atspi_marshal.specs.Reading.{input_of}
use Rattle.atspi_marshal_in_place.specs.Items.{item_data, item_kind, fields_data}
use Rattle.atspi_message_in_place.proofs.ReadTypes.{item_type}
use Rattle.atspi_match.specs.routing.Answers.{first_text}
use Rattle.atspi_bus_answers.proofs.Literals.{nil-chars}
use Rattle.atspi_bus_answers.proofs.FirstText.{no_first}
use Rattle.atspi_bus_answers.proofs.arguments.first_text.Goals as goal

pub returns-in-None-text : goal.returns-in-None-text
returns-in-None-text c =
    let x = c.in-Some.first in
    let other : item_kind x ≡ text → ⊥ = λ e. (let clash = c.in-None-text.ensures.is.1 e in absurd cc) in
    nil-chars ∙ sym (ap first_text c.in-Some.ensures.comes ∙ no_first (item_data x) (fields_data c.next.new.self) (λ t. other (sym (item_type (input_of x.input) x.levels (item_kind x) x.bound x.at x.known) ∙ t)))

pub returns-in-None : goal.returns-in-None
returns-in-None c = nil-chars ∙ sym (ap first_text c.in-None.ensures.comes.0)
