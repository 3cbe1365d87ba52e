use Rattle.std.specs.Cmp.Lexicographic.{nat_list_cmp_total}
use Rattle.atspi_names.proofs.Maps.{map-insert}
use Rattle.atspi_names.proofs.ListsLemmas.{names_apart}
use Rattle.atspi_names.proofs.lists.put.Goals as goal

pub returns-clause-ok : goal.returns-clause-ok
returns-clause-ok c = map-insert nat_list_cmp_total names_apart c.args.map.now c.insert.new.self c.args.name c.args.queue c.in_ok-insert.ensures.updates.0
