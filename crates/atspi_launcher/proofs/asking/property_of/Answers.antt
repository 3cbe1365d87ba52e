use Rattle.std.proofs.Common.{◌∙◌}
use Rattle.atspi_launcher.proofs.Reading.{property_as}
use Rattle.atspi_launcher.proofs.asking.property_of.Goals as goal

pub returns : goal.returns
returns c = c.property.ensures ∙ property_as c.args.interface.now c.args.name.now c.utf8.interface c.utf8.name
