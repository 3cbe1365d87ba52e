-- A table of cells, and the forest that it holds.
use Rattle.std.specs.Prelude.{ℕ, ◌≡◌, ◌≤◌, ◌==◌, Bool, List, map, Option, Some, None}
use Rattle.atspi_tree_model.specs.Forest.{Forest, nil, tree, count, tops}

-- a row under its key
pub record Node (R : Type 0) : Type 0 where
  pub key : ℕ
  pub row : R

-- what a table keeps under a key
pub record Kept (R : Type 0) : Type 0 where
  pub row : R
  pub children : List ℕ
  pub parent : Option ℕ

module _ {R : Type 0} where
  abbrev pub is_key : ℕ → Node R → Bool
  is_key k n = n.key == k

  -- the keys at the top of a forest
  abbrev pub keys : Forest (Node R) → List ℕ
  keys f = map (λ n. n.key) (tops f)

  -- a table has each node of a forest, with its row, its children and its parent; at the top the parent is handed in
  abbrev pub HoldsBelow : (ℕ → Option (Kept R)) → Option ℕ → Forest (Node R) → Type 0
  HoldsBelow look up nil = Unit {0}
  HoldsBelow look up (tree n children rest) =
      (look n.key ≡ Some (record { row = n.row; children = keys children; parent = up }))
      × HoldsBelow look (Some n.key) children
      × HoldsBelow look up rest

  -- a table has the nodes of a forest, each under one key, and nothing else
  pub record Holds (look : ℕ → Option (Kept R)) (f : Forest (Node R)) : Type 0 where
    pub nodes : HoldsBelow look None f
    pub once : (k : ℕ) → count (is_key k) f ≤ 1
    pub only : (k : ℕ) → count (is_key k) f ≡ 0 → look k ≡ None

  -- a child put among others
  abbrev pub with_children : (List ℕ → List ℕ) → Kept R → Kept R
  with_children h k = record k { children = h k.children }
