-- What faces know of nodes, number by number.
use Rattle.std.proofs.Common.{◌≡◌, ℕ, zero, suc, true, false, Option, None, Some, refl, sym, ◌∙◌, arith}
use Rattle.std.specs.FinMap.{empty, get, insert, gets}
use Rattle.atspi_faces.specs.face.Nodes.{Nodes}
use Rattle.atspi_tree_model.specs.declared.contents.FaceData.{FaceData}
use Rattle.atspi_tree_model.specs.Forest.{has}
use Rattle.atspi_tree_model.specs.Tree.{is_shape}
use Rattle.atspi_protocol.specs.whole.Cases.{kept, small}
use Rattle.atspi_protocol.specs.whole.Whole.{KnowsNo}
use Rattle.atspi_protocol.proofs.OfWhole.Faces.{put_elsewhere}

pub clash : (o : Option FaceData) (x : FaceData) → o ≡ Some x → o ≡ None → ⊥
clash o x there not = let both : Some x ≡ None = sym there ∙ not in absurd cc

abbrev one_known : ℕ → FaceData → Nodes
one_known n what = insert empty n what

-- where one node is known no other is
elsewhere : (n q : ℕ) (what : FaceData) → (q ≡ n → ⊥) → get (one_known n what) q ≡ None
elsewhere n q what ne = put_elsewhere empty n what q ne ∙ simp gets refl

-- the nodes 0 to 2 are in the small tree, and no other is known
pub kept_of_small : (n : ℕ) → has (is_shape n) small ≡ false → KnowsNo kept n
kept_of_small zero out = let clash : true ≡ false = out in absurd cc
kept_of_small (suc zero) out = let clash : true ≡ false = out in absurd cc
kept_of_small (suc (suc zero)) out = let clash : true ≡ false = out in absurd cc
kept_of_small (suc (suc (suc n))) out =
    let m = suc (suc (suc n)) in
    (elsewhere 1 m _ (λ e. omega (arith, e)), elsewhere 2 m _ (λ e. omega (arith, e)), elsewhere 0 m _ (λ e. omega (arith, e)))
