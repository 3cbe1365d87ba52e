use Rattle.std.proofs.Common.{◌≤◌, sym, subst, arith, max}
use Rattle.atspi_pool.specs.Store.{with_pushed, chain_at}
use Rattle.std.specs.Prelude.{IsSome}
use Rattle.atspi_pool.specs.Pool.{most_of}
use Rattle.atspi_pool.proofs.PoolLemmas as lemmas
use Rattle.atspi_pool.proofs.pool.Pool.push.Goals as goal

pub returns-clause-bound : goal.returns-clause-bound
returns-clause-bound c =
    subst (λ s. c.push.new.self.made ≤ max s.made (most_of (with_pushed s c.args.chain c.args.bytes.now).chains)) c.self.view_is
    (omega (
      arith,
      c.push.ensures.bound,
      lemmas.all_few (with_pushed c.self.inside.store c.args.chain c.args.bytes.now).chains
          (lemmas.fronts_pushed c.self.inside.store c.args.chain c.args.bytes.now (lemmas.used_within c.self.inside.store c.args.chain (subst (λ s. IsSome (chain_at s c.args.chain)) (sym c.self.view_is) c.requires.used)) c.push.ensures.fronts),
    ))
