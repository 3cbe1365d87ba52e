use Rattle.std.proofs.Common.{[], ◌∷◌, codes, refl}
use Rattle.std.specs.FinMap.{get, gets}
use Rattle.atspi_tree_model.specs.declared.contents.FaceData.TheVariants.{Chars, Deeds, Grid}
use Rattle.atspi_protocol.specs.whole.Cases.{kept}
use Rattle.atspi_examples.proofs.OfProtocol.Knowing.{clash}
use Rattle.atspi_examples.proofs.protocol.whole.unknown.Goals as goal

pub returns-clause-of_none : goal.returns-clause-of_none
returns-clause-of_none c = (simp gets refl, simp gets refl, simp gets refl)

pub returns-clause-text : goal.returns-clause-text
returns-clause-text c = λ no. clash (get kept.chars 1) (Chars (codes "abc") 1 ((0, 2) ∷ [])) (simp gets refl) no.0

pub returns-clause-columns : goal.returns-clause-columns
returns-clause-columns c = λ no. clash (get kept.grid 2) (Grid 2) (simp gets refl) no.1

pub returns-clause-actions : goal.returns-clause-actions
returns-clause-actions c = λ no. clash (get kept.deeds 0) (Deeds (codes "press" ∷ [])) (simp gets refl) no.2

pub returns-clause-text_alone : goal.returns-clause-text_alone
returns-clause-text_alone c = (simp gets refl, simp gets refl, simp gets refl)
