use Rattle.std.proofs.Common.{Some, List, true, sym, ap, ◌∙◌}
use Rattle.atspi_tree_model.specs.declared.step.Step.{Step}
use Rattle.atspi_app_contents.specs.changes.inner.Steps.{choosing}
use Rattle.atspi_app_contents.proofs.OfChanges.Changed.{selects_all}
use Rattle.atspi_app_contents.proofs.changes.children.select_all.Goals as goal

pub returns : goal.returns
returns c = λ body.
    selects_all c.args.tree.now c.is_lawful.ensures c.args.node body (Some c.in_ok-choosing.field-0) true c.states.result c.states.ensures (sym c.if-not-is_multiselectable.false ∙ c.is_multiselectable.ensures)
    (ap (λ (l : List Step). Some l) (c.in_ok-choosing.ensures ∙ ap (choosing c.args.tree.now.rows true) c.children.ensures))
