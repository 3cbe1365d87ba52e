use Rattle.std.proofs.Common.{◌≡◌, ◌+◌, ℕ, Option, Some, cond, is_some, sym, ap, subst, arith, vec_capacity}
use Rattle.atspi_pool.specs.Chains.{Chain, empty_chain}
use Rattle.atspi_pool.specs.Pool.{IsNumbered, in_use}
use Rattle.atspi_pool.proofs.PoolLemmas as lemmas
use Rattle.atspi_pool.proofs.pool.Pool.new_chain.Goals as goal

pub open-requires-clause-chain : goal.open-requires-clause-chain
open-requires-clause-chain c =
    (lemmas.taken_vacant c.self.inside.store c.self.inside.unused.items (vec_capacity c.self.inside.unused) c.self.invariant c.pop.new.self.items c.in-Some.number c.in-Some.ensures.items).0

pub invariant_of-self : goal.invariant_of-self
invariant_of-self c =
    subst (IsNumbered c.open.new.self c.pop.new.self.items) (sym c.in-Some.ensures.capacity)
    (lemmas.taken_numbered c.self.inside.store c.self.inside.unused.items (vec_capacity c.self.inside.unused) c.self.invariant c.pop.new.self.items c.in-Some.number c.in-Some.ensures.items
    c.open.new.self empty_chain c.open.ensures)

pub returns-in-Some-clause-in_use : goal.returns-in-Some-clause-in_use
returns-in-Some-clause-in_use c =
    let free = lemmas.taken_vacant c.self.inside.store c.self.inside.unused.items (vec_capacity c.self.inside.unused) c.self.invariant c.pop.new.self.items c.in-Some.number c.in-Some.ensures.items in
    subst (λ s. in_use c.open.new.self.chains ≡ in_use s.chains + 1) c.self.view_is
    (omega (
      arith,
      lemmas.in_use_set c.self.inside.store c.open.new.self c.in-Some.number (Some empty_chain) free.0 c.open.ensures,
      ap (λ (o : Option Chain). cond {A = ℕ} (is_some o) 1 0) free.1,
    ))
