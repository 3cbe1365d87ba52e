use Rattle.std.proofs.Common.{◌≡◌, ◌+◌, ℕ, Bool, true, cond, List, length, take, get_or, sym, ap, ◌∙◌, arith, add-zero}
use Rattle.std.specs.Prelude.{filter}
use Rattle.std.proofs.lemmas.List.{take_more, take_all}
use Rattle.std.proofs.lemmas.List.Elements.{All-get_or}
use Rattle.atspi_tree_model.specs.Forest.{has}
use Rattle.atspi_tree_model.specs.Tree.{is_shape}
use Rattle.atspi_app_answers.specs.inner.Selected.{is_selected_in}
use Rattle.atspi_app_answers.proofs.SelectedLemmas.{counted_more}
use Rattle.atspi_app_answers.proofs.selected.selected_among.Goals as goal
use Rattle.atspi_app_answers.proofs.selected.selected_among.Goals.{then-is_selected, else-is_selected}

pub is_selected-requires : goal.is_selected-requires
is_selected-requires c =
    All-get_or (λ n. has (is_shape n) c.args.tree.now.rows ≡ true) c.args.nodes.now c.loop-node.node-index 0 c.loop-node-test.true c.requires.there

pub loop-node-preserved : goal.loop-node-preserved
loop-node-preserved c =
    let i = c.loop-node.node-index in
    let xs = c.args.nodes.now in
    let so_far = length (filter (is_selected_in c.args.tree.now) (take i xs)) in
    let more =
    ap (λ (ys : List ℕ). length (filter (is_selected_in c.args.tree.now) ys)) (take_more xs i 0 c.loop-node-test.true)
    ∙ counted_more (is_selected_in c.args.tree.now) (take i xs) (get_or xs i 0) in
    elim c.if-is_selected.branch [
      | then-is_selected w ↦ (
        w.count-is ∙ ap (λ n. n + 1) c.loop-node.invariant.0
            ∙ sym (more ∙ ap (λ (b : Bool). so_far + cond b 1 0) (sym c.is_selected.ensures ∙ w.if-is_selected.true)),
        omega (arith, w.count-is, c.loop-node.invariant.1),
      )
      | else-is_selected w ↦ (
        w.count-is ∙ c.loop-node.invariant.0
            ∙ sym (more ∙ ap (λ (b : Bool). so_far + cond b 1 0) (sym c.is_selected.ensures ∙ w.if-is_selected.false) ∙ add-zero so_far),
        omega (arith, w.count-is, c.loop-node.invariant.1),
      )
    ]

pub returns : goal.returns
returns c =
    c.loop-node.invariant.0
    ∙ ap (λ (ys : List ℕ). length (filter (is_selected_in c.args.tree.now) ys)) (take_all c.loop-node.node-index c.args.nodes.now c.loop-node-test.false)
