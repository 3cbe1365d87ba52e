-- The edit that `make` draws: of the tree as it is, by the edit's number and the generator's state.
use Rattle.std.specs.Prelude.{ℕ, ◌+◌, ◌%◌, ◌==◌, nat_lt, not, ◌&&◌, List, [], ◌++◌, length, filter, None, codes, false}
use Rattle.std.specs.Prelude.{if◌then◌else◌}
use Rattle.std.specs.Fmt.{decimal}
use Rattle.atspi_tree_model.specs.declared.edit.Edit.{Edit}
use Rattle.atspi_tree_model.specs.declared.edit.Edit.TheVariants.{Insert, Remove, Move, Name, State, Focus}
use Rattle.atspi_tree_model.specs.declared.limits.TheConstants.{NODE_LIMIT}
use Rattle.atspi_tree_model.specs.declared.step.Seed.{Seed}
use Rattle.atspi_tree_model.specs.Edits.{node_has_state, numbers_to}
use Rattle.atspi_tree_model.specs.Forest.{has}
use Rattle.atspi_tree_model.specs.RowRules.{shapes}
use Rattle.atspi_tree_model.specs.States.{checked}
use Rattle.atspi_tree_model.specs.Tree.{in_subtree, is_shape}
use Rattle.atspi_tree.specs.TreeShape.{TreeShape, children_of}
use Rattle.atspi_run_make.specs.Draws.{drawn, drawn_of, next_state}

-- THE LIVE NODES: the numbers of the nodes that are there, rising
abbrev pub live_nodes : TreeShape → List ℕ
live_nodes t = filter (λ n. has (is_shape n) t.rows) (numbers_to t.added)

-- an edit, and the generator's state behind the draws that were made for it
pub record Drawn : Type 0 where
  pub edit : Edit
  pub state : ℕ

-- a push button (43) that is named `n` and the edit's number
abbrev pub button : ℕ → Seed
button k =
    record {
      role = 43;
      name = codes "n" ++ decimal k;
      text = None;
      editable = false;
      columns = None;
      select = false;
      actions = [];
    }

-- the node p gets such a button among its children, or behind them; is named `m` and the edit's number; loses or gets
-- `checked`
abbrev pub inserts : TreeShape → ℕ → ℕ → ℕ → Drawn
inserts t p k x = record { edit = Insert p (drawn x % (length (children_of p t) + 1)) (button k); state = next_state x }

abbrev pub names : ℕ → ℕ → ℕ → Drawn
names p k x = record { edit = Name p (codes "m" ++ decimal k); state = x }

abbrev pub toggles : TreeShape → ℕ → ℕ → Drawn
toggles t p x = record { edit = State p checked (not (node_has_state t.rows p checked)); state = x }

-- a live node q is drawn: p becomes its first child, unless q is p or below it
abbrev pub moves : TreeShape → ℕ → ℕ → ℕ → Drawn
moves t p k x =
    let q = drawn_of (live_nodes t) x in
    if in_subtree shapes p t.rows q then names p k (next_state x)
    else record { edit = Move p q 0; state = next_state x }

-- of four draws one removes p, unless it is the root
abbrev pub turns : TreeShape → ℕ → ℕ → Drawn
turns t p x =
    if p == 0 then toggles t p x
    else (if drawn x % 4 == 0 then record { edit = Remove p; state = next_state x } else toggles t p (next_state x))

-- what is done with the node p, by the draw d
abbrev pub edit_of : TreeShape → ℕ → ℕ → ℕ → ℕ → Drawn
edit_of t d p k x =
    if nat_lt d 4 && nat_lt (length (live_nodes t)) NODE_LIMIT then inserts t p k x
    else (if (d == 5) && not (p == 0) then moves t p k x
    else (if d == 6 then record { edit = Focus p; state = x }
    else (if d == 7 then turns t p x else names p k x)))

-- THE EDIT WITH A NUMBER, counted from 1: the first draw says what is done, the second with which live node
abbrev pub drawn_edit : TreeShape → ℕ → ℕ → Drawn
drawn_edit t k x = edit_of t (drawn x % 8) (drawn_of (live_nodes t) (next_state x)) k (next_state (next_state x))
