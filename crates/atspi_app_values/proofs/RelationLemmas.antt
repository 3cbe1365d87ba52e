-- The relations of a node, kind by kind.
use Rattle.std.proofs.Common.{◌≡◌, ℕ, zero, suc, Bool, true, false, cond, List, [], ◌∷◌, ◌++◌, Option, map, refl, ap, ◌∙◌}
use Rattle.std.specs.Prelude.{filter}
use Rattle.std.proofs.lemmas.List.{map-append}
use Rattle.std.proofs.lemmas.List.Elements.{filter-append}
use Rattle.atspi_types.specs.Data.{Data}
use Rattle.atspi_tree_model.specs.declared.limits.TheConstants.{RELATION_KINDS}
use Rattle.atspi_tree_model.specs.Row.{ShapeRow}
use Rattle.atspi_tree_model.specs.Edits.{node_targets, numbers_to}
use Rattle.atspi_app_values.specs.Relations.{relation, has_some, relations_among}

-- the numbers below another, rising
abbrev pub below : ℕ → List ℕ
below zero = []
below (suc k) = below k ++ k ∷ []

pub kinds_below : below 19 ≡ numbers_to RELATION_KINDS
kinds_below = refl

-- one kind more
pub one_more : (name : List ℕ) (row : Option ShapeRow) (k : ℕ) (b : Bool) → has_some k row ≡ b
    → relations_among name row (below (suc k)) ≡ relations_among name row (below k) ++ cond b (relation name k (node_targets k row) ∷ []) []
one_more name row k b e =
    ap (map (λ kind. relation name kind (node_targets kind row))) (filter-append (λ kind. has_some kind row) (below k) (k ∷ []))
    ∙ map-append (λ kind. relation name kind (node_targets kind row)) (filter (λ kind. has_some kind row) (below k)) (filter (λ kind. has_some kind row) (k ∷ []))
    ∙ ap (λ (ds : List Data). relations_among name row (below k) ++ ds) (last b e)
  where
    last : (b : Bool) → has_some k row ≡ b → map (λ kind. relation name kind (node_targets kind row)) (filter (λ kind. has_some kind row) (k ∷ [])) ≡ cond b (relation name k (node_targets k row) ∷ []) []
    last true e = rw e refl
    last false e = rw e refl
