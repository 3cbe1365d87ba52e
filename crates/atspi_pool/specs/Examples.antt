-- Values worked out by hand, one for each case.
use Rattle.std.specs.Prelude.{◌≡◌, [], ◌∷◌, replicate, Some, None}
use Rattle.atspi_pool.specs.Chains.{Chain, empty_chain, blocks_for, blocks_of, front_of, room_in, pushed, popped_by}
use Rattle.atspi_pool.specs.Chains.{cut_by}
use Rattle.atspi_pool.specs.Store.{Store, blocks_in, all_blocks, held, chain_at, with_chain, HasFront}
use Rattle.atspi_pool.specs.Pool.{no_pool, in_use, SetsChain, after_push, most_for, most_in, most_of, HasFewBlocks}
use Rattle.atspi_pool.specs.Pool.{IsCall, AreCalls, made_after, greatest}

-- three bytes behind 254 popped ones: two in the first block, one in the next
abbrev pub three : Chain
three = record { popped = 254; bytes = 7 ∷ 8 ∷ 9 ∷ [] }

-- one chain of three bytes, with number 1
abbrev pub one_chain : Store
one_chain = record { made = 2; chains = None ∷ Some three ∷ [] }

-- one chain of a byte, with number 0, in a block that is full
abbrev pub full_chain : Store
full_chain = record { made = 1; chains = Some (record { popped = 255; bytes = 7 ∷ [] }) ∷ [] }

-- the same with 256 bytes more, in a block more
abbrev pub filled_chain : Store
filled_chain = record { made = 2; chains = Some (record { popped = 255; bytes = 7 ∷ replicate 256 5 }) ∷ [] }

pub record BlocksAreCounted : Type 0 where
  pub none : blocks_for 0 ≡ 0
  pub one : blocks_for 1 ≡ 1
  pub full : blocks_for 256 ≡ 1
  pub more : blocks_for 257 ≡ 2
  pub popped : blocks_of three ≡ 2
  pub empty : blocks_of empty_chain ≡ 0
  pub no_chain : blocks_in None ≡ 0
  pub all : all_blocks one_chain.chains ≡ 2

pub record ChainsChange : Type 0 where
  pub front : front_of three ≡ 7 ∷ 8 ∷ []
  pub room : room_in three ≡ 255
  pub full : room_in (record { popped = 255; bytes = 7 ∷ [] }) ≡ 256
  pub more : pushed three (1 ∷ []) ≡ record { popped = 254; bytes = 7 ∷ 8 ∷ 9 ∷ 1 ∷ [] }
  pub in_block : popped_by three 1 ≡ record { popped = 255; bytes = 8 ∷ 9 ∷ [] }
  pub whole_block : popped_by three 2 ≡ record { popped = 0; bytes = 9 ∷ [] }
  pub all_popped : popped_by three 3 ≡ record { popped = 0; bytes = [] }
  pub cut : cut_by three 1 ≡ record { popped = 254; bytes = 7 ∷ 8 ∷ [] }
  pub all_cut : cut_by three 3 ≡ record { popped = 0; bytes = [] }

pub record PoolsChange : Type 0 where
  pub named : chain_at one_chain 1 ≡ Some three
  pub unused : chain_at one_chain 0 ≡ None
  pub past : chain_at one_chain 2 ≡ None
  pub held_unused : held None ≡ record { popped = 0; bytes = [] }
  pub dropped : with_chain one_chain 1 None ≡ record { made = 2; chains = None ∷ None ∷ [] }
  pub used : in_use one_chain.chains ≡ 1
  pub new : no_pool ≡ record { made = 0; chains = [] }
  pub makes_none : (after_push one_chain 1 (1 ∷ [])).made ≡ 2
  pub makes_one
      : (after_push (record { made = 1; chains = Some (record { popped = 255; bytes = 7 ∷ [] }) ∷ [] }) 0
      (1 ∷ [])).made ≡ 2
  pub appends : (after_push one_chain 1 (1 ∷ [])).chains
      ≡ None ∷ Some (record { popped = 254; bytes = 7 ∷ 8 ∷ 9 ∷ 1 ∷ [] }) ∷ []

pub record FrontsAreTold : Type 0 where
  pub some : HasFront (Some three)
  pub empty : HasFront (Some empty_chain)
  pub unused : HasFront None
  pub whole_block : HasFront (Some (record { popped = 256; bytes = 7 ∷ [] })) → ⊥
  pub popped_empty : HasFront (Some (record { popped = 1; bytes = [] })) → ⊥

pub record ChainsAreSet : Type 0 where
  pub dropped : SetsChain one_chain (record { made = 2; chains = None ∷ None ∷ [] }) 1 None
  pub opened
      : SetsChain one_chain (record { made = 2; chains = Some empty_chain ∷ Some three ∷ [] }) 0 (Some empty_chain)
  pub not_named : SetsChain one_chain one_chain 1 None → ⊥
  pub other : SetsChain one_chain (record { made = 2; chains = Some empty_chain ∷ None ∷ [] }) 1 None → ⊥
  pub made : SetsChain one_chain (record { made = 3; chains = None ∷ None ∷ [] }) 1 None → ⊥

pub record CallsAreTold : Type 0 where
  pub push : IsCall full_chain filled_chain 3
  pub out_of_memory : IsCall full_chain full_chain 3
  pub too_many : IsCall full_chain (record { made = 4; chains = filled_chain.chains }) 3 → ⊥
  pub drop : IsCall full_chain (record { made = 1; chains = None ∷ [] }) 0
  pub drop_makes_none : IsCall full_chain (record { made = 2; chains = None ∷ [] }) 0 → ⊥
  pub none : AreCalls full_chain []
  pub two : AreCalls full_chain ((3, filled_chain) ∷ (0, record { made = 2; chains = None ∷ [] }) ∷ [])
  pub second : AreCalls full_chain ((3, filled_chain) ∷ (0, record { made = 3; chains = None ∷ [] }) ∷ []) → ⊥
  pub few : HasFewBlocks one_chain
  pub not_few : HasFewBlocks (record { made = 1; chains = Some (record { popped = 1; bytes = [] }) ∷ [] }) → ⊥

pub record BoundsAreCounted : Type 0 where
  pub none : most_for 0 ≡ 0
  pub one : most_for 1 ≡ 2
  pub more : most_for 256 ≡ 3
  pub no_chain : most_in None ≡ 0
  pub all : most_of one_chain.chains ≡ 2
  pub first : greatest ((3, no_pool) ∷ (2, no_pool) ∷ []) ≡ 3
  pub later : greatest ((2, no_pool) ∷ (3, no_pool) ∷ []) ≡ 3
  pub no_calls : greatest [] ≡ 0
  pub made : made_after no_pool ((3, one_chain) ∷ []) ≡ 2
  pub made_before : made_after one_chain [] ≡ 2
