use Rattle.std.specs.Cmp.{nat_cmp_total}
use Rattle.std.specs.FinMap.{nat_cmp-IsAntisymmetric}
use Rattle.atspi_names.proofs.Maps.{map-insert}
use Rattle.atspi_names.proofs.names.put_unique.Goals as goal

pub returns : goal.returns
returns c = map-insert nat_cmp_total nat_cmp-IsAntisymmetric c.args.unique.now c.insert.new.self c.args.conn c.args.name c.in_ok-insert.ensures.updates.0
