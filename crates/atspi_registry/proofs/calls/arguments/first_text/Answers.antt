use Rattle.std.proofs.Common.{sym, ap, ◌∙◌}
use Rattle.std.proofs.lemmas.Str.{chars-nil}
use Rattle.atspi_marshal_in_place.specs.Items.{item_data, fields_data}
use Rattle.atspi_protocol.specs.members.Arguments.{characters_in}
use Rattle.atspi_registry.proofs.OfCalls.Reading.{first_is, no_first}
use Rattle.atspi_registry.proofs.calls.arguments.first_text.Goals as goal

pub returns-in-Some-clause-text : goal.returns-in-Some-clause-text
returns-in-Some-clause-text c =
    c.text_of.ensures.text ∙ sym (ap characters_in (first_is (fields_data c.args.args) (fields_data c.next.new.self) (item_data c.in-Some.first) c.in-Some.ensures.comes))

pub returns-in-None-clause-text : goal.returns-in-None-clause-text
returns-in-None-clause-text c = chars-nil ∙ sym (ap characters_in (no_first (fields_data c.args.args) 0 c.in-None.ensures.comes.0))
