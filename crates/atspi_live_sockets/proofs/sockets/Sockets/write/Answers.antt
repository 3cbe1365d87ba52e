use Rattle.std.proofs.Common.{refl}
use Rattle.atspi_live_sockets.proofs.LinkLemmas.{numbers_set}
use Rattle.atspi_live_sockets.proofs.sockets.Sockets.write.Goals as goal

pub returns-clause-links : goal.returns-clause-links
returns-clause-links c = numbers_set c.args.self.now.links.items c.in-Some.place c.index_mut.result.now _ c.index_mut.ensures.value refl
