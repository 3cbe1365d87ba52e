use Rattle.std.proofs.Common.{ap, ◌∙◌}
use Rattle.std.specs.FinMap.{remove}
use Rattle.atspi_hit.proofs.Placed.{dropped}
use Rattle.atspi_hit.proofs.layout.Layout.drop_node.Goals as goal

pub returns : goal.returns
returns c =
    dropped _ _ c.args.node c.remove.ensures.updates.0
    ∙ ap (λ places. remove places c.args.node) c.self.view_is
