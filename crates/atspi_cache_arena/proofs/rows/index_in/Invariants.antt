use Rattle.atspi_cache_arena.proofs.Stepped.{NoneNear}
use Rattle.atspi_cache_arena.proofs.rows.index_in.Given as goal

abbrev pub invariant-loop-places : goal.invariant-loop-places
invariant-loop-places l = NoneNear l.children l.key l.near l.places
