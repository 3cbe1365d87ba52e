use Rattle.std.proofs.Common.{ap, ◌∙◌}
use Rattle.std.specs.FinMap.{insert}
use Rattle.atspi_hit.proofs.Placed.{placed}
use Rattle.atspi_hit.proofs.layout.Layout.place.Goals as goal

pub returns-clause-ok : goal.returns-clause-ok
returns-clause-ok c =
    placed _ _ c.args.node c.args.rect c.in_ok-insert.ensures.updates.0
    ∙ ap (λ places. insert places c.args.node c.args.rect) c.self.view_is
