use Rattle.std.proofs.Common.{◌≡◌, ℕ, zero, suc, ◌≤◌, [], ◌∷◌, refl, subst, arith}
use Rattle.atspi_tree_model.specs.Map.{times, Reached, Root, Child}
use Rattle.atspi_examples.specs.Maps.{children_of}
use Rattle.atspi_examples.proofs.maps.no_trees.Goals as goal

pub returns-clause-root_below : goal.returns-clause-root_below
returns-clause-root_below c = λ t. let h : 1 ≡ 0 = t.root_below_none 1 in absurd (omega (arith, h))

not_zero : ◌≡◌ {A = ℕ} 1 0 → ⊥
not_zero h = absurd (omega (arith, h))

pub returns-clause-twice : goal.returns-clause-twice
returns-clause-twice c = λ t. let l = t.in_one_list 1 not_zero refl in in_list l.0 l.1
  where
    in_list : (p : ℕ) → times 1 (children_of (1 ∷ 1 ∷ []) [] p) ≡ 1 → ⊥
    in_list zero h = let k : 2 ≡ 1 = h in absurd (omega (arith, k))
    in_list (suc zero) h = let k : 0 ≡ 1 = h in absurd (omega (arith, k))
    in_list (suc (suc p)) h = let k : 0 ≡ 1 = h in absurd (omega (arith, k))

pub returns-clause-two_lists : goal.returns-clause-two_lists
returns-clause-two_lists c = λ t. let l = t.in_one_list 1 not_zero refl in in_lists l.0 l.1 l.2
  where
    in_lists : (p : ℕ) → times 1 (children_of (1 ∷ []) (1 ∷ []) p) ≡ 1
        → ((q : ℕ) → (q ≡ p → ⊥) → times 1 (children_of (1 ∷ []) (1 ∷ []) q) ≡ 0) → ⊥
    in_lists zero h o = let k : 1 ≡ 0 = o 1 not_zero in not_zero k
    in_lists (suc zero) h o = let k : 1 ≡ 0 = o 0 (λ e. absurd (omega (arith, e))) in not_zero k
    in_lists (suc (suc p)) h o = let k : 0 ≡ 1 = h in absurd (omega (arith, k))

pub returns-clause-no_list : goal.returns-clause-no_list
returns-clause-no_list c = λ t. let l = t.in_one_list 1 not_zero refl in in_list l.0 l.1
  where
    in_list : (p : ℕ) → times 1 (children_of [] [] p) ≡ 1 → ⊥
    in_list zero h = let k : 0 ≡ 1 = h in absurd (omega (arith, k))
    in_list (suc zero) h = let k : 0 ≡ 1 = h in absurd (omega (arith, k))
    in_list (suc (suc p)) h = let k : 0 ≡ 1 = h in absurd (omega (arith, k))

pub returns-clause-circle : goal.returns-clause-circle
returns-clause-circle c = λ t. not_zero (only_root (t.reached 1 refl))
  where
    only_root : {m : ℕ} → Reached (children_of [] (1 ∷ [])) m → m ≡ 0
    only_root Root = refl
    only_root (Child {p = p} {m = m} r l) =
        let k : 1 ≤ 0 = subst (λ n. 1 ≤ times m (children_of [] (1 ∷ []) n)) (only_root r) l in absurd (omega (arith, k))

pub returns-clause-no_child : goal.returns-clause-no_child
returns-clause-no_child c = λ t. let h = (t.children_there 0 5 (omega arith)).1 in cc
