-- Each edit that is drawn can be asked for.
use Rattle.std.proofs.Common.{ℕ, ◌==◌, Bool, true, false, not, arith}
use Rattle.std.specs.Prelude.{◌&&◌, ◌%◌, length, nat_lt, if◌then◌else◌}
use Rattle.atspi_tree_model.specs.declared.limits.TheConstants.{NODE_LIMIT}
use Rattle.atspi_tree_model.specs.Edits.{IsEdit}
use Rattle.atspi_tree_model.specs.RowRules.{shapes}
use Rattle.atspi_tree_model.specs.Tree.{in_subtree}
use Rattle.atspi_tree.specs.TreeShape.{TreeShape}
use Rattle.atspi_run_make.specs.Draws.{drawn, drawn_of, next_state}
use Rattle.atspi_run_make.specs.Drawing.{Drawn, edit_of, inserts, live_nodes, moves, toggles, turns}

-- of two that can be asked for each can
chosen : (b : Bool) (x y : Drawn) → IsEdit x.edit → IsEdit y.edit → IsEdit (if b then x else y).edit
chosen true x y h k = h
chosen false x y h k = k

toggles_lawful : (t : TreeShape) (p x : ℕ) → IsEdit (toggles t p x).edit
toggles_lawful t p x = omega arith

turns_lawful : (t : TreeShape) (p x : ℕ) → IsEdit (turns t p x).edit
turns_lawful t p x =
    chosen (p == 0) _ _ (toggles_lawful t p x) (chosen (drawn x % 4 == 0) _ _ tt (toggles_lawful t p (next_state x)))

pub drawn_lawful : (t : TreeShape) (d p k x : ℕ) → IsEdit (edit_of t d p k x).edit
drawn_lawful t d p k x =
    chosen (nat_lt d 4 && nat_lt (length (live_nodes t)) NODE_LIMIT) (inserts t p k x) _ (omega arith, λ e. absurd cc)
    (chosen ((d == 5) && not (p == 0)) (moves t p k x) _ (chosen (in_subtree shapes p t.rows (drawn_of (live_nodes t) x)) _ _ tt tt)
    (chosen (d == 6) _ _ tt (chosen (d == 7) (turns t p x) _ (turns_lawful t p x) tt)))
