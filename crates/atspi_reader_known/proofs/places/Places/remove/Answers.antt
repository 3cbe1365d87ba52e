use Rattle.std.proofs.Common.{None}
use Rattle.std.proofs.lemmas.Map.Text.{btree_map_updates_text}
use Rattle.atspi_reader_known.proofs.places.Places.remove.Goals as goal

pub returns : goal.returns
returns c = λ q. btree_map_updates_text c.args.name.now c.args.self.now.places c.remove.new.self None c.remove.ensures.updates q
