-- Each other number has the chain that it had.
use Rattle.std.proofs.Common.{◌≡◌, ◌≢◌, ℕ, zero, suc, [], ◌∷◌, Some, None, refl, arith}
use Rattle.atspi_pool.specs.Chains.{empty_chain}
use Rattle.atspi_pool.specs.Store.{chain_at}
use Rattle.atspi_pool.specs.Examples.{one_chain, three}
use Rattle.atspi_pool.proofs.examples.chains_are_set.Goals as goal

others_dropped : (q : ℕ) → q ≢ 1 → chain_at (record { made = 2; chains = None ∷ None ∷ [] }) q ≡ chain_at one_chain q
others_dropped zero ne = refl
others_dropped (suc zero) ne = absurd (ne refl)
others_dropped (suc (suc q)) ne = refl

others_opened : (q : ℕ) → q ≢ 0 → chain_at (record { made = 2; chains = Some empty_chain ∷ Some three ∷ [] }) q ≡ chain_at one_chain q
others_opened zero ne = absurd (ne refl)
others_opened (suc zero) ne = refl
others_opened (suc (suc q)) ne = refl

pub returns : goal.returns
returns c = record {
  dropped = record { named = refl; others = others_dropped; made = refl };
  opened = record { named = refl; others = others_opened; made = refl };
  not_named = λ h. let e : Some three ≡ None = h.named in cc;
  other = λ h. let e : Some empty_chain ≡ None = h.others 0 (omega arith) in cc;
  made = λ h. let e : 3 ≡ 2 = h.made in omega arith;
}
