use Rattle.std.proofs.Common.{subst}
use Rattle.atspi_faces.specs.face.Nodes.{AreContents}
use Rattle.atspi_faces.proofs.face.boxed.BoxDynFaceFace.kind.Goals as goal

pub returns-clause-contents : goal.returns-clause-contents
returns-clause-contents g c =
    subst (λ p. AreContents ((g.dyn-1.0.entry p.0).1.of_kind p.1) ((g.dyn-1.0.entry p.0).1.nodes p.1)) c.deref_box-1.ensures.1 c.kind.ensures.1
