use Rattle.std.proofs.Common.{subst}
use Rattle.atspi_faces.specs.face.Nodes.{IsNext}
use Rattle.atspi_faces.proofs.face.boxed.BoxDynFaceFace.next_node.Goals as goal

pub returns : goal.returns
returns g c =
    subst (λ p. IsNext ((g.dyn-1.0.entry p.0).1.nodes p.1) c.args.from c.next_node.result) c.deref_box-1.ensures.1 c.next_node.ensures
