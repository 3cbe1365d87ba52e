use Rattle.std.proofs.Common.{ap, ◌∙◌}
use Rattle.atspi_base.specs.valid_names.Names.{is_interface}
use Rattle.atspi_bus_answers.proofs.Literals.{error_is}
use Rattle.atspi_bus_answers.proofs.said.error_to.Goals as goal

pub interface-requires : goal.interface-requires
interface-requires c = ap is_interface c.name.ensures ∙ error_is c.args.error
