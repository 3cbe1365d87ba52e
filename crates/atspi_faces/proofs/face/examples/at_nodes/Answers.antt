use Rattle.std.proofs.Common.{refl}
use Rattle.atspi_faces.proofs.OfFace.Known.{known}
use Rattle.atspi_faces.proofs.face.examples.at_nodes.Goals as goal

pub returns-clause-count : goal.returns-clause-count
returns-clause-count c = simp known refl

pub returns-clause-no_count : goal.returns-clause-no_count
returns-clause-no_count c = simp known refl

pub returns-clause-caret : goal.returns-clause-caret
returns-clause-caret c = simp known refl

pub returns-clause-no_caret : goal.returns-clause-no_caret
returns-clause-no_caret c = simp known refl

pub returns-clause-marks : goal.returns-clause-marks
returns-clause-marks c = simp known refl

pub returns-clause-no_marks : goal.returns-clause-no_marks
returns-clause-no_marks c = simp known refl

pub returns-clause-part : goal.returns-clause-part
returns-clause-part c = simp known refl

pub returns-clause-no_part : goal.returns-clause-no_part
returns-clause-no_part c = simp known refl

pub returns-clause-changed : goal.returns-clause-changed
returns-clause-changed c = simp known refl

pub returns-clause-others : goal.returns-clause-others
returns-clause-others c = simp known refl

pub returns-clause-not_here : goal.returns-clause-not_here
returns-clause-not_here c = simp known refl
