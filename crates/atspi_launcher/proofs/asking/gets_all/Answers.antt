use Rattle.std.proofs.Common.{chars, ◌∙◌}
use Rattle.atspi_marshal_in_place.specs.Items.{fields_data}
use Rattle.atspi_launcher.proofs.Reading.{all_one}
use Rattle.atspi_launcher.proofs.asking.gets_all.Goals as goal

pub returns-in-None : goal.returns-in-None
returns-in-None c =
    c.all_properties_of.ensures
    ∙ all_one (fields_data c.args.body) (fields_data c.next_text.new.values) (chars c.in-Some.interface.now) c.in-Some.ensures c.in-None.ensures.comes.0
