-- Words with one space between any two.
use Rattle.std.specs.Prelude.{ℕ, zero, suc, List, [], ◌∷◌, ◌++◌}
use Rattle.std.specs.List.{flat_map}

-- a word behind a space
abbrev pub behind_space : List ℕ → List ℕ
behind_space word = 32 ∷ word

-- the first word, and each other one behind a space
abbrev pub spaced : List (List ℕ) → List ℕ
spaced [] = []
spaced (word ∷ words) = word ++ flat_map behind_space words

-- what stands before a word behind so many others: nothing before the first, else a space
abbrev pub gap : ℕ → List ℕ
gap zero = []
gap (suc n) = 32 ∷ []

-- words between an opening and a closing bracket
abbrev pub in_brackets : ℕ → List (List ℕ) → ℕ → List ℕ
in_brackets opening words closing = opening ∷ (spaced words ++ closing ∷ [])
