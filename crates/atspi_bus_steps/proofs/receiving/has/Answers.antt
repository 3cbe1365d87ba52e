use Rattle.std.proofs.Common.{◌∙◌}
use Rattle.atspi_bus_steps.proofs.Asking.{has-is}
use Rattle.atspi_bus_steps.proofs.receiving.has.Goals as goal

pub returns : goal.returns
returns c = c.is_ok.ensures.value ∙ has-is c.args.joined.now c.args.conn c.binary_search.result c.requires c.binary_search.ensures.position
