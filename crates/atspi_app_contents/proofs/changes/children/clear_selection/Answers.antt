use Rattle.std.proofs.Common.{Some, List, false, ap, ◌∙◌}
use Rattle.atspi_tree_model.specs.declared.step.Step.{Step}
use Rattle.atspi_app_contents.specs.changes.inner.Steps.{choosing}
use Rattle.atspi_app_contents.proofs.OfChanges.Changed.{clears}
use Rattle.atspi_app_contents.proofs.changes.children.clear_selection.Goals as goal

pub returns : goal.returns
returns c = λ body.
    clears c.args.tree.now c.is_lawful.ensures c.args.node body (Some c.in_ok-choosing.field-0) (ap (λ (l : List Step). Some l) (c.in_ok-choosing.ensures ∙ ap (choosing c.args.tree.now.rows false) c.children.ensures))
