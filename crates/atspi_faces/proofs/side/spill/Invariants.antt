use Rattle.std.proofs.Common.{ℕ, List, ◌≤◌, vec_len}
use Rattle.atspi_faces.specs.Sides.{AreSpread}
use Rattle.atspi_faces.proofs.side.spill.Given as goal

abbrev pub invariant-loop-place : goal.invariant-loop-place
invariant-loop-place l = (text : List ℕ) (upto : ℕ) → l.at ≤ upto → AreSpread text l.total upto l.initial.from.items l.initial.to.items → (n : ℕ) × ((l.at ≤ n) × AreSpread text l.total n l.from.items l.to.items)

abbrev pub decreases-loop-place : goal.decreases-loop-place
decreases-loop-place l = vec_len l.from
