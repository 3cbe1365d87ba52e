use Rattle.std.proofs.Common.{◌∙◌}
use Rattle.atspi_app_contents.proofs.OfValues.Contents.{columns_counted}
use Rattle.atspi_app_contents.proofs.values.cells.column_count.Goals as goal

pub returns : goal.returns
returns g c = c.count.ensures ∙ columns_counted (g.G.Face.of_kind c.args.columns.now) c.requires (g.G.Face.nodes c.args.columns.now) c.kind.ensures.contents c.args.node
