-- Following the live nodes of a tree from one look to the next.
use Rattle.std.specs.Prelude.{◌≡◌, ℕ, zero, suc, nat_le, ◌&&◌, List, [], ◌∷◌, ◌++◌, filter}
use Rattle.atspi_tree_model.specs.Forest.{has}
use Rattle.atspi_tree_model.specs.Tree.{is_shape}
use Rattle.atspi_tree.specs.TreeShape.{TreeShape}

-- the numbers below another, rising
abbrev pub below : ℕ → List ℕ
below zero = []
below (suc k) = below k ++ k ∷ []

-- of some numbers those of nodes that are there
abbrev pub there_of : TreeShape → List ℕ → List ℕ
there_of t numbers = filter (λ n. has (is_shape n) t.rows) numbers

-- the nodes from a number on
abbrev pub live_from : ℕ → TreeShape → List ℕ
live_from first t = filter (λ n. nat_le first n && has (is_shape n) t.rows) (below (suc t.added))

-- WHAT WAS SEEN CAN BE FOLLOWED: of the nodes below a number, those that are there are among those that were seen
abbrev pub CanFollow : List ℕ → ℕ → TreeShape → Type 0
CanFollow seen next t = there_of t seen ≡ there_of t (below next)
