use Rattle.std.proofs.Common.{sym, ap, ◌∙◌}
use Rattle.std.specs.Option.{option_map}
use Rattle.atspi_faces.proofs.NodeLemmas.{get_nodes}
use Rattle.atspi_faces.proofs.kept.Kept.find.Goals as goal

pub returns : goal.returns
returns g c =
    get_nodes g.C.Contents.as_data c.args.self.now.nodes.entries c.args.node
    ∙ ap (option_map g.C.Contents.as_data) (sym c.get.ensures.value)
