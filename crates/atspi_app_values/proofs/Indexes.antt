-- The index of a node among its parent's children.
use Rattle.std.proofs.Common.{◌≡◌, ℕ, zero, suc, ◌<◌, ◌≤◌, length, ◌==◌, Bool, true, false, cond, List, [], ◌∷◌, Option, Some, None, refl, sym, ap, ◌∙◌, arith}
use Rattle.std.specs.Prelude.{ℤ, pos, negsuc, slice_get}
use Rattle.std.specs.Option.{option_map}
use Rattle.std.proofs.lemmas.Bool.{and_parts, eqb-true}
use Rattle.std.proofs.lemmas.Bool.Decides.{Decides-eqb}
use Rattle.atspi_tree_model.specs.Edits.{is_seat}
use Rattle.atspi_tree_model.specs.RowRules.{shapes}
use Rattle.atspi_tree_model.specs.Tree.{seat_of}
use Rattle.atspi_tree.specs.inner.Places.{index_in}
use Rattle.atspi_tree.specs.TreeShape.{TreeShape, IsLawful, children_of, parent_of}
use Rattle.atspi_tree.proofs.Seated.{seat_is}
use Rattle.atspi_tree.proofs.Walks.{index_small}
use Rattle.atspi_protocol.specs.ends.Places.{registry_root}
use Rattle.atspi_protocol.specs.objects.Children as children
use Rattle.atspi_app_values.specs.Numbers as told
use Rattle.atspi_app_values.specs.Numbers.{index_of}

same : (n : ℕ) → (n == n) ≡ true
same n = (Decides-eqb n n).1 refl

-- where a test of a place is passed, that is the place
passed : (p i : ℕ) (o : Option (Option ℕ × ℕ)) → is_seat p i o ≡ true → o ≡ Some (Some p, i)
passed p i None e = absurd (let z : false ≡ true = e in cc)
passed p i (Some (None, j)) e = absurd (let z : false ≡ true = e in cc)
passed p i (Some (Some q, j)) e =
    let h = and_parts (q == p) (j == i) e in
    ap (λ (m : ℕ). Some (Some m, j)) (eqb-true q p h.0) ∙ ap (λ (m : ℕ). Some (Some p, m)) (eqb-true j i h.1)

pub seat_found : (t : TreeShape) (n p : ℕ) → IsLawful t → parent_of n t ≡ Some (Some p) → seat_of shapes n t.rows ≡ Some (Some p, index_in n (children_of p t))
seat_found t n p lawful up = let k = index_in n (children_of p t) in passed p k (seat_of shapes n t.rows) (sym (seat_is t n p k lawful up) ∙ same k)

pub no_parent : (t : TreeShape) (n : ℕ) → parent_of n t ≡ Some None → (o : Option (Option ℕ × ℕ)) → seat_of shapes n t.rows ≡ o → index_of o ≡ negsuc 0
no_parent t n up None e = refl
no_parent t n up (Some (None, i)) e = refl
no_parent t n up (Some (Some p, i)) e = absurd (let z : Some (Some p) ≡ Some None = sym (ap (λ (o : Option (Option ℕ × ℕ)). option_map (λ s. s.0) o) e) ∙ up in cc)

pub no_parent_told : (name : List ℕ) (t : TreeShape) (n : ℕ) → parent_of n t ≡ Some None → (o : Option (Option ℕ × ℕ)) → seat_of shapes n t.rows ≡ o → told.parent_of name o ≡ registry_root
no_parent_told name t n up None e = refl
no_parent_told name t n up (Some (None, i)) e = refl
no_parent_told name t n up (Some (Some p, i)) e = absurd (let z : Some (Some p) ≡ Some None = sym (ap (λ (o : Option (Option ℕ × ℕ)). option_map (λ s. s.0) o) e) ∙ up in cc)

-- how many children there are
none_short : {A : Type 0} (xs : List A) (k : ℕ) → slice_get xs k ≡ None → length xs ≤ k
none_short [] k e = omega arith
none_short (x ∷ xs) zero e = absurd (let z : Some x ≡ None = e in cc)
none_short (x ∷ xs) (suc k) e = let h = none_short xs k e in omega (arith, h)

pub few_children : (t : TreeShape) (n : ℕ) → IsLawful t → length (children_of n t) ≤ 8192
few_children t n lawful = by (slice_get (children_of n t) 8192) refl
  where
    by : (o : Option ℕ) → slice_get (children_of n t) 8192 ≡ o → length (children_of n t) ≤ 8192
    by None e = none_short (children_of n t) 8192 e
    by (Some c) e = let h : 8192 < 8192 = index_small t n 8192 c lawful e in absurd (omega (arith, h))

pub index_within : (n : ℕ) (ms : List ℕ) → index_in n ms ≤ length ms
index_within n [] = omega arith
index_within n (m ∷ ms) = by (m == n) (index_within n ms)
  where
    by : (b : Bool) → index_in n ms ≤ length ms → cond b 0 (suc (index_in n ms)) ≤ suc (length ms)
    by true h = omega arith
    by false h = omega (arith, h)

-- an index from outside
pub at_none : (z : ℤ) (xs : List ℕ) → told.place_of z ≡ None → None ≡ children.at z xs
at_none (pos i) xs e = cc
at_none (negsuc i) xs e = refl

pub at_some : (z : ℤ) (i : ℕ) (xs : List ℕ) → told.place_of z ≡ Some i → slice_get xs i ≡ children.at z xs
at_some (pos n) i xs e = let same : n ≡ i = cc in ap (slice_get xs) (sym same)
at_some (negsuc n) i xs e = cc
