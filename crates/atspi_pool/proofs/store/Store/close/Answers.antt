use Rattle.std.proofs.Common.{[], None, refl}
use Rattle.atspi_pool.proofs.StoreLemmas as lemmas
use Rattle.atspi_pool.proofs.store.Store.close.Goals as goal

pub returns : goal.returns
returns c =
    lemmas.changed c.self.inside.bytes.items c.self.inside.links c.args.self.now c.self.view_is c.args.chain c.requires _ [] _ c.give_all.new.self c.set_marks.new.self c.give_all.ensures c.set_marks.ensures None refl
