use Rattle.std.proofs.Common.{◌≡◌, ◌+◌, ◌<◌, ◌≤◌, ◌++◌, ℕ, List, sym, ap, ◌∙◌, arith}
use Rattle.atspi_tree_model.specs.declared.step.Step.{Step}
use Rattle.atspi_tree_edits.specs.inner.Switches.{unfocusing}
use Rattle.atspi_tree_edits.proofs.Switched.{all_skipped, at_least, below, none_beyond, unfocus_next}
use Rattle.atspi_tree_edits.proofs.focus.push_others.Goals as goal

pub loop-other-preserved : goal.loop-other-preserved
loop-other-preserved c =
    unfocus_next c.args.tree.now.rows c.args.node c.loop-other.from c.in-Some.other c.args.steps.now c.loop-other.steps c.push_unfocus.new.steps
    c.in-Some.ensures.next.0 c.in-Some.ensures.next.2 c.loop-other.invariant c.in_ok-push_unfocus.ensures
    ∙ ap (λ (j : ℕ). c.args.steps.now ++ unfocusing c.args.tree.now.rows c.args.node (below j)) (sym c.in-Some-checked_add.ensures.1)

pub returns : goal.returns
returns c =
    c.loop-other.invariant
    ∙ ap (λ (s : List Step). c.args.steps.now ++ s) (sym (all_skipped c.args.tree.now c.args.node c.loop-other.from c.in_default.ensures.lawful c.in_default.ensures.next))

pub returns-in-None : goal.returns-in-None
returns-in-None c =
    let lawful = c.in-Some.ensures.lawful in
    let big : 4294967296 ≤ c.in-Some.other + 1 = at_least (c.in-Some.other + 1) c.in-None.ensures in
    unfocus_next c.args.tree.now.rows c.args.node c.loop-other.from c.in-Some.other c.args.steps.now c.loop-other.steps c.push_unfocus.new.steps
    c.in-Some.ensures.next.0 c.in-Some.ensures.next.2 c.loop-other.invariant c.in_ok-push_unfocus.ensures
    ∙ ap (λ (s : List Step). c.args.steps.now ++ s)
    (sym (all_skipped c.args.tree.now c.args.node (c.in-Some.other + 1) lawful (none_beyond c.args.tree.now (c.in-Some.other + 1) lawful big)))
