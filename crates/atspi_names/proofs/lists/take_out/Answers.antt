use Rattle.std.specs.Cmp.Lexicographic.{nat_list_cmp_total}
use Rattle.atspi_names.proofs.Maps.{map-remove}
use Rattle.atspi_names.proofs.ListsLemmas.{names_apart}
use Rattle.atspi_names.proofs.lists.take_out.Goals as goal

pub returns : goal.returns
returns c = map-remove nat_list_cmp_total names_apart c.args.map.now c.remove.new.self c.args.name.now c.remove.ensures.updates.0
