use Rattle.std.proofs.Common.{ap, ◌∙◌}
use Rattle.atspi_pool.proofs.StoreLemmas as lemmas
use Rattle.atspi_pool.proofs.store.Store.len.Goals as goal

pub returns-clause-len : goal.returns-clause-len
returns-clause-len c =
    ap (λ m. m.len) c.marks.ensures.marks ∙ lemmas.len_is c.self.inside.bytes.items c.self.inside.links c.self.invariant c.marks.ensures.apart c.args.self.now c.self.view_is c.args.chain c.requires
