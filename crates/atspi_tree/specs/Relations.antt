-- Relations in a row, and how they are kept.
use Rattle.std.specs.Prelude.{ℕ, ◌≡◌, ◌==◌, List, [], ◌++◌, map, filter}
use Rattle.atspi_tree_model.specs.Row.{ShapeRow}

-- other relations
abbrev pub with_relations : List (ℕ × ℕ) → ShapeRow → ShapeRow
with_relations relations row = record row { relations = relations }

-- the relations of a kind stand together: those before and behind them are of other kinds
pub record StandsTogether (kind : ℕ) (relations : List (ℕ × ℕ)) : Type 0 where
  pub before : List (ℕ × ℕ)
  pub targets : List ℕ
  pub behind : List (ℕ × ℕ)
  pub parts : relations ≡ before ++ (map (λ t. (kind, t)) targets ++ behind)
  pub none_before : filter (λ r. r.0 == kind) before ≡ []
  pub none_behind : filter (λ r. r.0 == kind) behind ≡ []

-- the relations of each kind stand together, and beside them the targets are listed in the same order
pub record AreKept (relations : List (ℕ × ℕ)) (targets : List ℕ) : Type 0 where
  pub together : (kind : ℕ) → StandsTogether kind relations
  pub listed : targets ≡ map (λ r. r.1) relations
