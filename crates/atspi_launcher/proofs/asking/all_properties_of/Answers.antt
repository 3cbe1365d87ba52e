use Rattle.std.proofs.Common.{◌∙◌}
use Rattle.atspi_launcher.proofs.Reading.{all_as}
use Rattle.atspi_launcher.proofs.asking.all_properties_of.Goals as goal

pub returns : goal.returns
returns c = c.all_of.ensures ∙ all_as c.args.interface.now c.utf8.interface
