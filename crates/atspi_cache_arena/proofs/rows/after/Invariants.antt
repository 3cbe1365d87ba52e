use Rattle.std.proofs.Common.{ℕ, List, Some, length}
use Rattle.atspi_cache_arena.specs.Table.{look_in}
use Rattle.atspi_cache_arena.specs.Walk.{EndsAt, Frame, IsWay, depth, left_of}
use Rattle.atspi_cache_arena.proofs.Stepped.{Climbed}
use Rattle.atspi_cache_arena.proofs.rows.after.Given as goal

abbrev pub invariant-loop-parent : goal.invariant-loop-parent
invariant-loop-parent l = record {
  way : (fs : List Frame) × IsWay (look_in l.cells) (length l.cells.slots) fs × EndsAt l.place fs;
  same :
      (fs : List Frame) → IsWay (look_in l.cells) (length l.cells.slots) fs → EndsAt l.initial.place fs
      → Climbed (look_in l.cells) (length l.cells.slots) l.place (left_of fs);
}

abbrev pub decreases-loop-parent : goal.decreases-loop-parent
decreases-loop-parent l = depth (length l.cells.slots) (look_in l.cells) (Some l.place.key)
