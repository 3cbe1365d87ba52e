-- Places in a list of numbers.
use Rattle.std.specs.Prelude.{ℕ, suc, ◌==◌, cond, List, [], ◌∷◌}

-- the index of the first element that is this number, or how many there are
abbrev pub index_in : ℕ → List ℕ → ℕ
index_in n [] = 0
index_in n (m ∷ ms) = cond (m == n) 0 (suc (index_in n ms))
