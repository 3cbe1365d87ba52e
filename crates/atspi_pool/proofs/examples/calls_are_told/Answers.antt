-- A push appends 256 bytes to chain 0; a list of calls is taken call by call.
use Rattle.std.proofs.Common.{◌≡◌, ℕ, zero, suc, ◌≤◌, [], ◌∷◌, None, max, refl, arith, inl, inr}
use Rattle.std.specs.Prelude.{replicate}
use Rattle.atspi_pool.specs.Store.{chain_at, blocks_in}
use Rattle.atspi_pool.specs.Pool.{IsCall, most_in}
use Rattle.atspi_pool.specs.Examples.{one_chain, full_chain, filled_chain}
use Rattle.atspi_pool.proofs.examples.calls_are_told.Goals as goal

pushes : IsCall full_chain filled_chain 3
pushes = inl (0, replicate 256 5, (refl, omega arith))

makes_one : IsCall filled_chain (record { made = 3; chains = None ∷ [] }) 0 → ⊥
makes_one h = elim h [
  | inl push ↦ let le : 3 ≤ max 2 0 = push.2.1 in omega arith
  | inr quiet ↦ let e : 3 ≡ 2 = quiet.1 in omega arith
]

few_blocks : (q : ℕ) → blocks_in (chain_at one_chain q) ≤ most_in (chain_at one_chain q)
few_blocks zero = omega arith
few_blocks (suc zero) = omega arith
few_blocks (suc (suc q)) = omega arith

pub returns : goal.returns
returns c = record {
  push = pushes;
  out_of_memory = inl (0, replicate 256 5, (refl, omega arith));
  too_many = λ h. elim h [
    | inl push ↦ let le : 4 ≤ max 1 3 = push.2.1 in omega arith
    | inr quiet ↦ let e : 4 ≡ 1 = quiet.1 in omega arith
  ];
  drop = inr (refl, refl);
  drop_makes_none = λ h. elim h [
    | inl push ↦ let le : 2 ≤ max 1 0 = push.2.1 in omega arith
    | inr quiet ↦ let e : 2 ≡ 1 = quiet.1 in omega arith
  ];
  none = tt;
  two = (pushes, (inr (refl, refl), tt));
  second = λ h. makes_one h.1.0;
  few = few_blocks;
  not_few = λ h. let le : 1 ≤ 0 = h 0 in omega arith;
}
