-- What the two nodes of the worked examples have, and that no other node has anything.
use Rattle.std.proofs.Common.{◌≡◌, ℕ, false, cond, Some, None, MatchOption, refl, sym, ap, subst, ◌∙◌}
use Rattle.std.specs.declared.cmp.Ordering.{Ordering}
use Rattle.std.specs.declared.cmp.Ordering.TheVariants.{Less, Equal, Greater}
use Rattle.std.specs.Ordering.{nat_cmp, is_eq, eq_by_cmp}
use Rattle.std.specs.FinMap.{get, find, gets, get-from_sorted, nat_cmp-IsAntisymmetric}
use Rattle.atspi_tree_model.specs.declared.contents.FaceData.{FaceData}
use Rattle.atspi_faces.specs.face.Nodes.{At}
use Rattle.atspi_faces.specs.face.Examples.{hello, short, texts, two}

pub get_two : (node : ℕ) → get two node ≡ find nat_cmp node texts
get_two node = get-from_sorted nat_cmp texts node tt

pub ruleset known = (get_two, gets)

differs : (r : Ordering) → (r ≡ Equal → ⊥) → is_eq r ≡ false
differs Less h = refl
differs Equal h = absurd (h refl)
differs Greater h = refl

other : (node k : ℕ) → (node ≡ k → ⊥) → eq_by_cmp nat_cmp node k ≡ false
other node k h = differs (nat_cmp node k) (λ e. h (nat_cmp-IsAntisymmetric node k e))

pub elsewhere : (node : ℕ) → (node ≡ 3 → ⊥) → (node ≡ 7 → ⊥) → get two node ≡ None
elsewhere node a b =
    get_two node ∙ ap (λ t. cond t (Some hello) (cond (eq_by_cmp nat_cmp node 7) (Some short) None)) (other node 3 a)
    ∙ ap (λ t. cond t (Some short) None) (other node 7 b)

pub here : (P : FaceData → Type 0) (node : ℕ) (what : FaceData) → get two node ≡ Some what → P what → At two node P
here P node what e is = subst (λ o. MatchOption o ⊥ P) (sym e) is

pub of : (P : FaceData → Type 0) (node : ℕ) (what : FaceData) → get two node ≡ Some what → At two node P → P what
of P node what e is = subst (λ o. MatchOption o ⊥ P) e is

pub nowhere : (P : FaceData → Type 0) (node : ℕ) → get two node ≡ None → At two node P → ⊥
nowhere P node e is = subst (λ o. MatchOption o ⊥ P) e is
