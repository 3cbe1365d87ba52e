-- Which name the second connection has.
use Rattle.std.proofs.Common.{ℕ, List, [], ◌∷◌, ap}
use Rattle.std.specs.Prelude.{Option, None}
use Rattle.atspi_match.specs.routing.Queues.{Bus}
use Rattle.atspi_world_moves.specs.Halted.{Naming, HaveNames}
use Rattle.atspi_examples.specs.Halting.{nameless, one_named, two_ends, two_posts}

abbrev second : List Naming → Option (List ℕ)
second [] = None
second (n ∷ []) = None
second (n ∷ m ∷ ns) = m.name

pub lacks : (b : Bus) → HaveNames (two_ends b) one_named → ⊥
lacks b h = let names = ap second h in absurd cc

pub too_early : (b : Bus) → HaveNames (nameless b) two_posts → ⊥
too_early b h = let names = ap second h in absurd cc
