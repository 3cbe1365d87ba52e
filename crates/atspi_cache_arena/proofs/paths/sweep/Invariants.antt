use Rattle.std.proofs.Common.{◌≡◌, ℕ, List, cond, None, take}
use Rattle.std.specs.HashMap.{get_by_text}
use Rattle.atspi_cache_arena.specs.Table.{is_among, look_in, path_among}
use Rattle.atspi_cache_arena.proofs.paths.sweep.Given as goal

abbrev pub invariant-loop-key : goal.invariant-loop-key
invariant-loop-key l =
    ((n : ℕ) → look_in l.cells n ≡ cond (is_among n (take l.key-index l.keys)) None (look_in l.initial.cells n))
    × ((q : List ℕ) → get_by_text l.paths.index q ≡ cond (path_among (look_in l.initial.cells) q (take l.key-index l.keys)) None (get_by_text l.initial.paths.index q))
    × (l.paths.root ≡ l.initial.paths.root)
