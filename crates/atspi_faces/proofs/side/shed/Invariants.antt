use Rattle.std.proofs.Common.{ℕ, List, reverse, vec_len}
use Rattle.atspi_faces.specs.Sides.{AreNoted}
use Rattle.atspi_faces.proofs.side.shed.Given as goal

abbrev pub invariant-loop : goal.invariant-loop
invariant-loop l = (cs : List ℕ) (upto : ℕ) → AreNoted cs upto (reverse l.initial.places.items) → (n : ℕ) × AreNoted cs n (reverse l.places.items)

abbrev pub decreases-loop : goal.decreases-loop
decreases-loop l = vec_len l.places
