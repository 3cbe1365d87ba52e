use Rattle.std.proofs.Common.{ap, ◌∙◌}
use Rattle.atspi_tree_model.specs.declared.contents.FaceKind.{FaceKind}
use Rattle.atspi_faces.specs.face.Boxes.{box_number}
use Rattle.atspi_app_exported.specs.Parts.{Numbers, with_number}
use Rattle.atspi_app.specs.Boxed.{boxes_in}
use Rattle.atspi_app.proofs.application.AppApplication.swap_face.Goals as goal

pub returns-in-Ok-clause-moved : goal.returns-in-Ok-clause-moved
returns-in-Ok-clause-moved g c =
    ap (λ (numbers : Numbers). numbers.chars) c.in-Ok.ensures.new_box
    ∙ ap (λ (kind : FaceKind). (with_number kind (box_number c.args.spare) (boxes_in c.args.self.now)).chars) c.requires.spare.0

pub returns-clause-stay : goal.returns-clause-stay
returns-clause-stay g c = ap (λ (numbers : Numbers). numbers.chars) c.in-Err.ensures.same_boxes
