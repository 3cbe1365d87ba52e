use Rattle.std.proofs.Common.{[], ◌∷◌, codes, refl}
use Rattle.std.specs.FinMap.{get, gets}
use Rattle.atspi_tree_model.specs.declared.contents.FaceData.TheVariants.{Chars}
use Rattle.atspi_protocol.specs.whole.Cases.{kept}
use Rattle.atspi_examples.proofs.OfProtocol.Knowing.{clash}
use Rattle.atspi_examples.proofs.protocol.whole.followed.Goals as goal

pub returns-clause-nothing : goal.returns-clause-nothing
returns-clause-nothing c = record { tree = refl; only = λ n out. (simp gets refl, simp gets refl, simp gets refl) }

pub returns-clause-stranger : goal.returns-clause-stranger
returns-clause-stranger c = λ f. clash (get kept.chars 1) (Chars (codes "abc") 1 ((0, 2) ∷ [])) (simp gets refl) (f.only 1 refl).0
