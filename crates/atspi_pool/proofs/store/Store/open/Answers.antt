use Rattle.std.proofs.Common.{Some, refl}
use Rattle.atspi_pool.specs.Chains.{empty_chain}
use Rattle.atspi_pool.proofs.StoreLemmas as lemmas
use Rattle.atspi_pool.proofs.store.Store.open.Goals as goal

pub returns : goal.returns
returns c = lemmas.remarked c.self.inside.bytes.items c.self.inside.links c.args.self.now c.self.view_is c.args.chain c.requires.chain _ c.set_marks.new.self c.set_marks.ensures (Some empty_chain) refl
