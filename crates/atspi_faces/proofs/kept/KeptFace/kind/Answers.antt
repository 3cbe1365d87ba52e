use Rattle.atspi_faces.proofs.NodeLemmas.{contents_of}
use Rattle.atspi_faces.proofs.kept.KeptFace.kind.Goals as goal

pub returns-clause-contents : goal.returns-clause-contents
returns-clause-contents g c = contents_of g.C.Contents.as_data _ g.met.C.Contents.sound c.args.self.now.nodes.entries
