-- No node comes back: what is there after a step, and has no new number, was there before.
use Rattle.std.proofs.Common.{◌≡◌, ℕ, ◌≤◌, ◌==◌, Bool, true, false, cond, refl, ap, arith}
use Rattle.std.proofs.lemmas.Bool.{ne_eqb}
use Rattle.atspi_tree_model.specs.declared.step.Step.{Step}
use Rattle.atspi_tree_model.specs.declared.step.Step.TheVariants.{Add, Remove, Move, SetName, SetDescription, SetRole, SetState, Insert, Delete, Caret, TextSelect, Relate}
use Rattle.atspi_tree_model.specs.Forest.{Forest, count, has, take_out, change}
use Rattle.atspi_tree_model.specs.Row.{TreeRow}
use Rattle.atspi_tree_model.specs.RowRules.{rows}
use Rattle.atspi_tree_model.specs.Tree.{is_node, is_number, in_subtree, after, node_of, IsTree, Applies}
use Rattle.atspi_tree_model.proofs.Counts.{count-parts}
use Rattle.atspi_tree_model.proofs.Relabel.{count-relabel}
use Rattle.atspi_tree_model.proofs.Found.{count-has, has-count}
use Rattle.atspi_tree_model.proofs.RowRules.{rows_sound}
use Rattle.atspi_tree_model.proofs.Kept.{count-add, count-move}

-- a change of rows keeps their numbers
change_count : (f : Forest TreeRow) (step : Step) (m : ℕ) → count (is_node m) (change (is_number rows (node_of step)) (rows.changed step) f) ≡ count (is_node m) f
change_count f step m =
    count-relabel (λ row. cond (is_number rows (node_of step) row) (rows.changed step row) row) (is_node m) (is_node m)
    (λ row. ap (λ x. x == m) (by row (is_number rows (node_of step) row))) f
  where
    by : (row : TreeRow) (b : Bool) → rows.number (cond b (rows.changed step row) row) ≡ rows.number row
    by row true = rows_sound.number_changed step row
    by row false = refl

no_more : (f : Forest TreeRow) (added : ℕ) (step : Step) (m : ℕ) → IsTree rows f added → Applies rows f added step → m ≤ added → count (is_node m) (after rows f step) ≤ count (is_node m) f
no_more f added (Add n p i seed) m t a low =
    let c = count-add rows rows_sound f n p i seed (t.once p) a.parent (is_node m) in
    let other : cond {A = ℕ} (n == m) 1 0 ≡ 0 = ap (λ b. cond {A = ℕ} b 1 0) (ne_eqb n m (λ x. let y = a.next in omega arith)) in
    let named : cond {A = ℕ} (rows.number (rows.first n seed) == m) 1 0 ≡ cond {A = ℕ} (n == m) 1 0 = ap (λ x. cond {A = ℕ} (x == m) 1 0) (rows_sound.number_first n seed) in
    omega arith
no_more f added (Remove n) m t a low =
    let same = count-relabel (rows.forgetting (in_subtree rows n f)) (is_node m) (is_node m) (λ row. ap (λ x. x == m) (rows_sound.number_forgetting (in_subtree rows n f) row)) (take_out (is_number rows n) f) in
    let parts = count-parts (is_node m) (is_number rows n) f in
    omega arith
no_more f added (Move n p i) m t a low = let c = count-move rows rows_sound f n p i t.once a.no_cycle (is_node m) in omega arith
no_more f added (SetName n x) m t a low = let c = change_count f (SetName n x) m in omega arith
no_more f added (SetDescription n x) m t a low = let c = change_count f (SetDescription n x) m in omega arith
no_more f added (SetRole n x) m t a low = let c = change_count f (SetRole n x) m in omega arith
no_more f added (SetState n s on) m t a low = let c = change_count f (SetState n s on) m in omega arith
no_more f added (Insert n at x) m t a low = let c = change_count f (Insert n at x) m in omega arith
no_more f added (Delete n at x) m t a low = let c = change_count f (Delete n at x) m in omega arith
no_more f added (Caret n at) m t a low = let c = change_count f (Caret n at) m in omega arith
no_more f added (TextSelect n marks) m t a low = let c = change_count f (TextSelect n marks) m in omega arith
no_more f added (Relate n kind targets) m t a low = let c = change_count f (Relate n kind targets) m in omega arith

pub was_there : (f : Forest TreeRow) (added : ℕ) (step : Step) (m : ℕ) → IsTree rows f added → Applies rows f added step → m ≤ added → has (is_node m) (after rows f step) ≡ true → has (is_node m) f ≡ true
was_there f added step m t a low there =
    let n = no_more f added step m t a low in
    let c = count-has (is_node m) (after rows f step) there in
    has-count (is_node m) f (omega arith)
