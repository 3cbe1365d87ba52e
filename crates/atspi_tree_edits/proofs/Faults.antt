-- The first reason of several, and tests of the row of a node.
use Rattle.std.proofs.Common.{◌≡◌, ℕ, Bool, true, false, Some, None, List, [], ◌∷◌, refl, sym, ap, ◌∙◌, arith}
use Rattle.std.specs.Prelude.{◌&&◌, ◌||◌, ◌<◌, nat_le}
use Rattle.std.proofs.lemmas.Bool.{leb-true}
use Rattle.std.specs.Option.{option_map}
use Rattle.atspi_tree_model.specs.declared.edit.EditFault.{EditFault}
use Rattle.atspi_tree_model.specs.Forest.{has}
use Rattle.atspi_tree_model.specs.Row.{ShapeRow}
use Rattle.atspi_tree_model.specs.Tree.{is_shape}
use Rattle.atspi_tree_model.specs.Edits.{first_fault, lacks_node, refusals}
use Rattle.atspi_tree_model.specs.declared.contents.FaceData.TheVariants.{Deeds}
use Rattle.atspi_tree_model.specs.declared.edit.Edit.TheVariants.{Move}
use Rattle.atspi_tree_model.proofs.EditLemmas.{false_of_not, none_of}
use Rattle.atspi_tree_model.proofs.Found.{count-has, find-has}
use Rattle.atspi_tree_model.proofs.Lookup.{test_found}
use Rattle.atspi_tree.specs.TreeShape.{TreeShape, IsLawful, row_of}

-- of two reasons and more, one of the two
pub one_of_two : (a b : Bool) (e f x : EditFault) (rest : List (Bool × EditFault)) → first_fault ((a, e) ∷ (b, f) ∷ []) ≡ Some x
    → first_fault ((a, e) ∷ (b, f) ∷ rest) ≡ Some x
one_of_two true b e f x rest h = h
one_of_two false true e f x rest h = h
one_of_two false false e f x rest h = cc

-- and none of the two
pub none_of_two : (a b : Bool) (e f : EditFault) (rest : List (Bool × EditFault)) → first_fault ((a, e) ∷ (b, f) ∷ []) ≡ None
    → first_fault ((a, e) ∷ (b, f) ∷ rest) ≡ first_fault rest
none_of_two true b e f rest h = cc
none_of_two false true e f rest h = cc
none_of_two false false e f rest h = refl

-- a test of what was read of a node that is there
pub asked : {V : Type 0} (t : TreeShape) (n : ℕ) (g : ShapeRow → V) (v : V) (q : V → Bool) → IsLawful t → has (is_shape n) t.rows ≡ true
    → option_map g (row_of n t) ≡ Some v → has (λ row. is_shape n row && q (g row)) t.rows ≡ q v
asked {V = V} t n g v q lawful there e =
    let row = find-has (is_shape n) t.rows (count-has (is_shape n) t.rows there) in
    let z : Some (g row.0) ≡ Some v = sym (ap (option_map g) row.1) ∙ e in
    test_found (is_shape n) (λ row. q (g row)) t.rows row.0 (lawful.once n) there row.1 ∙ ap q (same (g row.0) v z)
  where
    same : (x y : V) → Some x ≡ Some y → x ≡ y
    same x y e = cc

-- a test of an index that is not behind all
pub within : (count index : ℕ) → index < count → nat_le count index ≡ false
within count index l = at (nat_le count index) refl
  where
    at : (b : Bool) → nat_le count index ≡ b → nat_le count index ≡ false
    at true e = let k = leb-true count index e in absurd (omega arith)
    at false e = e

-- both nodes of a move that is not refused are there
pub both_there : (t : TreeShape) (n p i : ℕ) → first_fault (refusals t.rows t.added (Deeds []) (Move n p i)) ≡ None
    → (has (is_shape n) t.rows ≡ true) × (has (is_shape p) t.rows ≡ true)
both_there t n p i e =
    let one = none_of (lacks_node t.rows n || lacks_node t.rows p) _ _ e in
    let both = neither (lacks_node t.rows n) (lacks_node t.rows p) one.0 in
    (false_of_not (has (is_shape n) t.rows) both.0, false_of_not (has (is_shape p) t.rows) both.1)
  where
    neither : (a b : Bool) → a || b ≡ false → (a ≡ false) × (b ≡ false)
    neither true b e = cc
    neither false b e = (refl, e)
