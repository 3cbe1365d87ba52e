use Rattle.std.proofs.Common.{◌∙◌}
use Rattle.atspi_app_contents.proofs.OfValues.Contents.{actions_counted}
use Rattle.atspi_app_contents.proofs.values.actions.action_count.Goals as goal

pub returns : goal.returns
returns g c = c.count.ensures ∙ actions_counted (g.D.Face.of_kind c.args.actions.now) c.requires (g.D.Face.nodes c.args.actions.now) c.kind.ensures.contents c.args.node
