use Rattle.std.proofs.Common.{[], ◌∷◌, codes, refl}
use Rattle.std.specs.FinMap.{get, gets}
use Rattle.atspi_tree_model.specs.declared.contents.FaceData.TheVariants.{Chars, Grid}
use Rattle.atspi_protocol.specs.whole.Cases.{kept}
use Rattle.atspi_examples.proofs.OfProtocol.Knowing.{clash, kept_of_small}
use Rattle.atspi_examples.proofs.protocol.whole.only_of_trees.Goals as goal

pub returns-clause-all : goal.returns-clause-all
returns-clause-all c = kept_of_small

pub returns-clause-nothing : goal.returns-clause-nothing
returns-clause-nothing c = λ n out. (simp gets refl, simp gets refl, simp gets refl)

pub returns-clause-unknown : goal.returns-clause-unknown
returns-clause-unknown c = λ n out. (simp gets refl, simp gets refl, simp gets refl)

pub returns-clause-no_tree : goal.returns-clause-no_tree
returns-clause-no_tree c = λ only. clash (get kept.chars 1) (Chars (codes "abc") 1 ((0, 2) ∷ [])) (simp gets refl) (only 1 refl).0

pub returns-clause-no_table : goal.returns-clause-no_table
returns-clause-no_table c = λ only. clash (get kept.grid 2) (Grid 2) (simp gets refl) (only 2 refl).1
