use Rattle.std.proofs.Common.{sym}
use Rattle.atspi_app_exported.proofs.ReadOut.{columns_here}
use Rattle.atspi_app_exported.proofs.reading.contents_at.Goals as goal

pub returns-in-Grid : goal.returns-in-Grid
returns-in-Grid g c = columns_here (g.F.Face.of_kind c.args.face.now) (g.F.Face.nodes c.args.face.now) c.args.node c.count.result c.kind.ensures.contents (sym c.in-Grid.ensures.kind) c.requires c.count.ensures
