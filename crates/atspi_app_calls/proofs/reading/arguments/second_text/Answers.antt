use Rattle.std.proofs.Common.{sym, ap, ◌∙◌}
use Rattle.std.proofs.lemmas.Str.{chars-nil}
use Rattle.atspi_marshal_in_place.specs.Items.{item_data, fields_data}
use Rattle.atspi_protocol.specs.members.Arguments.{characters_in}
use Rattle.atspi_app_calls.proofs.OfReading.Reading.{second_is, no_first}
use Rattle.atspi_app_calls.proofs.reading.arguments.second_text.Goals as goal

pub returns-in-Some : goal.returns-in-Some
returns-in-Some c =
    c.first_text.ensures ∙ sym (ap characters_in (second_is (fields_data c.args.args) (fields_data c.next.new.self) (item_data c.in-Some.field-0) c.in-Some.ensures.comes))

pub returns-in-None : goal.returns-in-None
returns-in-None c = chars-nil ∙ sym (ap characters_in (no_first (fields_data c.args.args) 1 c.in-None.ensures.comes.0))
