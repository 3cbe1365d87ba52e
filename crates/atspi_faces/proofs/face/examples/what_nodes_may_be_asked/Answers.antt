use Rattle.std.proofs.Common.{◌≡◌, refl, arith}
use Rattle.atspi_tree_model.specs.declared.contents.FaceKind.TheVariants.{Chars}
use Rattle.atspi_faces.specs.declared.face.change.Change.TheVariants.{Caret}
use Rattle.atspi_faces.specs.face.Contents.{kind_of, IsPart, IsChange}
use Rattle.atspi_faces.specs.face.Examples.{hello, short}
use Rattle.atspi_faces.proofs.OfFace.Known.{get_two, here, of, nowhere}
use Rattle.atspi_faces.proofs.face.examples.what_nodes_may_be_asked.Goals as goal

pub returns-clause-text : goal.returns-clause-text
returns-clause-text c = here (λ what. kind_of what ≡ Chars) 3 hello (get_two 3) refl

pub returns-clause-no_text : goal.returns-clause-no_text
returns-clause-no_text c = nowhere (λ what. kind_of what ≡ Chars) 4 (get_two 4)

pub returns-clause-part : goal.returns-clause-part
returns-clause-part c = here (λ what. IsPart what 1 2) 7 short (get_two 7) (omega arith, omega arith)

pub returns-clause-no_part : goal.returns-clause-no_part
returns-clause-no_part c = λ is. let inside = of (λ what. IsPart what 1 3) 7 short (get_two 7) is in omega (arith, inside.1)

pub returns-clause-part_of_none : goal.returns-clause-part_of_none
returns-clause-part_of_none c = nowhere (λ what. IsPart what 0 0) 4 (get_two 4)

pub returns-clause-change : goal.returns-clause-change
returns-clause-change c = here (λ what. IsChange what (Caret 2)) 7 short (get_two 7) (omega arith)

pub returns-clause-no_change : goal.returns-clause-no_change
returns-clause-no_change c = λ is. let inside = of (λ what. IsChange what (Caret 3)) 7 short (get_two 7) is in omega (arith, inside)

pub returns-clause-change_of_none : goal.returns-clause-change_of_none
returns-clause-change_of_none c = nowhere (λ what. IsChange what (Caret 0)) 4 (get_two 4)
