use Rattle.std.proofs.Common.{arith}
use Rattle.atspi_pool.proofs.StoreLemmas as lemmas
use Rattle.atspi_pool.proofs.store.Store.free.Goals as goal

pub returns-clause-free : goal.returns-clause-free
returns-clause-free c =
    omega (arith, c.free.ensures.free, lemmas.free_seen c.self.inside.bytes.items c.self.inside.links c.self.invariant c.free.ensures.apart c.args.self.now c.self.view_is)

pub returns-clause-fronts : goal.returns-clause-fronts
returns-clause-fronts c = lemmas.fronts c.self.inside.bytes.items c.self.inside.links c.self.invariant c.free.ensures.apart c.args.self.now c.self.view_is
