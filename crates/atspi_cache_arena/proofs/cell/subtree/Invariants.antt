use Rattle.std.proofs.Common.{◌≡◌, ◌-◌, length}
use Rattle.atspi_tree_model.specs.declared.view.Row.{Row}
use Rattle.atspi_cache_arena.specs.Keys.{Holds, Node, is_key}
use Rattle.atspi_tree_model.specs.Forest.{Forest, count}
use Rattle.atspi_cache_arena.specs.Table.{look_in}
use Rattle.atspi_cache_arena.proofs.Walk.{Walked}
use Rattle.atspi_cache_arena.proofs.cell.subtree.Given as goal

abbrev pub invariant-loop-i : goal.invariant-loop-i
invariant-loop-i l = (f : Forest (Node Row)) → Holds (look_in l.cells) f → count (is_key l.key) f ≡ 1 → Walked (look_in l.cells) l.key f l.i l.keys.items

abbrev pub decreases-loop-i : goal.decreases-loop-i
decreases-loop-i l = length l.cells.slots - l.i
