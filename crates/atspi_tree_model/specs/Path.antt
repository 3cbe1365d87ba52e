-- The path of a node in its application.
use Rattle.std.specs.Prelude.{ℕ, zero, suc, ◌+◌, ◌^◌, nat_lt, cond, List, [], ◌∷◌, ◌++◌, codes, decimal}

-- what the path of each node begins with
abbrev pub base_path : List ℕ
base_path = codes "/org/a11y/atspi/accessible/"

-- the base and the word root for node 0, and for each other its number. No node has a number of 2 ^ 32 or more; that
-- such a number has a text of its own, which is no path, lets laws speak of all numbers
unfoldable pub path_of : ℕ → List ℕ
path_of zero = base_path ++ codes "root"
path_of (suc n) = cond (nat_lt (suc n) (2 ^ 32)) (base_path ++ decimal (suc n)) ((n + 256) ∷ [])
