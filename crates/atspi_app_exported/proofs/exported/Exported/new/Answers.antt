use Rattle.std.proofs.Common.{ap, ◌∙◌}
use Rattle.atspi_tree.specs.TreeShape.{root_alone}
use Rattle.atspi_app_exported.proofs.Following.{root_whole, root_exported}
use Rattle.atspi_app_exported.proofs.exported.Exported.new.Goals as goal

pub returns-in-Ok-new-clause-exported : goal.returns-in-Ok-new-clause-exported
returns-in-Ok-new-clause-exported g c =
    root_exported _ c.args.name c.in-Ok-new.tree _ c.requires.kinds c.requires.name (c.in-Ok-new.ensures ∙ ap root_alone c.in-Ok.ensures) c.requires.empty

pub returns-in-Ok-new-clause-root : goal.returns-in-Ok-new-clause-root
returns-in-Ok-new-clause-root g c =
    root_whole c.args.name c.in-Ok-new.tree _ (c.in-Ok-new.ensures ∙ ap root_alone c.in-Ok.ensures) c.requires.empty
