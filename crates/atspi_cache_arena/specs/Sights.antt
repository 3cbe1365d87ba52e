-- Rows as a walk over them shows them: each with its parent's path and its index.
use Rattle.std.specs.Prelude.{ℕ, ◌≤◌, ℤ, pos, negsuc, min, refl, List, map, Option, Some, None}
use Rattle.std.specs.Coded.{Coded, code_by, coded×, coded_ℕ, coded_ℤ, coded_list, coded_option}
use Rattle.atspi_tree_model.specs.declared.view.Row.{Row}
use Rattle.atspi_tree_model.specs.Forest.{Forest, seats}

-- a row, the path of its parent and its index there; the root has no parent, and the index -1
pub record Sight : Type 0 where
  pub parent : Option (List ℕ)
  pub index : ℤ
  pub row : Row

-- a sight is stored as the tuple of its fields
abbrev pub sight_code : Coded Row → Coded Sight
sight_code row =
    code_by (Option (List ℕ) × (ℤ × Row)) (coded× (coded_option (coded_list coded_ℕ)) (coded× coded_ℤ row))
    (λ s. (s.parent, (s.index, s.row))) (λ p. record { parent = p.0; index = p.1.0; row = p.1.1 }) (λ _. refl)

-- a row at its place. An index that is no number of 32 bits with a sign is shown as the greatest
abbrev pub sight : Option (List ℕ) × ℕ × Row → Sight
sight (None, i, row) = record { parent = None; index = negsuc 0; row = row }
sight (Some up, i, row) = record { parent = Some up; index = pos (min i 2147483647); row = row }

-- all rows in preorder
abbrev pub sights : Forest Row → List Sight
sights v = map sight (seats (λ (row : Row). Some row.path) None 0 v)
