use Rattle.atspi_faces.proofs.NodeLemmas.{drop_nodes}
use Rattle.atspi_faces.proofs.kept.KeptFace.drop_node.Goals as goal

pub returns-clause-gone : goal.returns-clause-gone
returns-clause-gone g c = drop_nodes g.C.Contents.as_data _ _ _ c.remove.ensures.updates.0
