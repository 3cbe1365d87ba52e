use Rattle.std.proofs.Common.{ap, ◌∙◌}
use Rattle.std.specs.FinMap.{insert}
use Rattle.atspi_faces.specs.Kept.{nodes_of}
use Rattle.atspi_faces.proofs.NodeLemmas.{put_nodes}
use Rattle.atspi_faces.proofs.kept.Kept.put_copy.Goals as goal

pub returns-in-Ok-insert-clause-ok : goal.returns-in-Ok-insert-clause-ok
returns-in-Ok-insert-clause-ok g c =
    put_nodes g.C.Contents.as_data _ _ _ _ c.in-Ok-insert.ensures.updates.0
    ∙ ap (insert (nodes_of g.C.Contents.as_data c.args.self.now.nodes.entries) c.args.node) c.in-Ok.ensures
