-- Small forests of numbers.
use Rattle.std.specs.Prelude.{ℕ, zero, suc, ◌==◌, Bool, List, [], ◌∷◌}
use Rattle.atspi_tree_model.specs.Forest.{Forest, nil, tree, seats}

-- the test for a number
abbrev pub is : ℕ → ℕ → Bool
is n x = x == n

-- a tree of one label
abbrev pub leaf : ℕ → Forest ℕ
leaf n = tree n nil nil

-- 1, with 2 and 3 below it and 4 below 3; and beside it 5, with 6 below it
abbrev pub sample : Forest ℕ
sample = tree 1 (tree 2 nil (tree 3 (leaf 4) nil)) (tree 5 (leaf 6) nil)

-- 7 and 8 side by side
abbrev pub pair : Forest ℕ
pair = tree 7 nil (leaf 8)

-- each node in preorder: the number above it, 0 at the top, its index and its number
abbrev pub spread : Forest ℕ → List (ℕ × ℕ × ℕ)
spread f = seats (λ x. x) 0 0 f

-- 2 and 3 below 1, 4 below 3, and nothing else
abbrev pub children : ℕ → List ℕ
children (suc zero) = 2 ∷ 3 ∷ []
children (suc (suc (suc zero))) = 4 ∷ []
children _ = []
