-- The children of a node, and those of them that are selected; indexes count from 0.
use Rattle.std.specs.Prelude.{ℕ, ℤ, pos, negsuc, ◌==◌, Bool, false, List, [], ◌∷◌, map, filter, Option, None, Some}
use Rattle.std.specs.Prelude.{slice_get}
use Rattle.std.specs.List.{list_any}
use Rattle.atspi_types.specs.Kinds.{number, u32, structure, kinds_of, array}
use Rattle.atspi_types.specs.Data.{Data, number_data, structure_data, array_data, items_of}
use Rattle.atspi_tree_model.specs.declared.limits.TheConstants.{RELATION_KINDS}
use Rattle.atspi_tree_model.specs.Forest.{children_at, tops}
use Rattle.atspi_tree_model.specs.States.{has_state, selected}
use Rattle.atspi_tree_model.specs.Row.{TreeRow, targets_of}
use Rattle.atspi_tree_model.specs.RowRules.{rows}
use Rattle.atspi_tree_model.specs.Tree.{is_node, seat_of}
use Rattle.atspi_tree_model.specs.Edits.{numbers_to}
use Rattle.atspi_protocol.specs.ends.Places.{reference_kind, registry_root}
use Rattle.atspi_protocol.specs.members.Arguments.{int}
use Rattle.atspi_protocol.specs.objects.Application.{Application}
use Rattle.atspi_protocol.specs.objects.Values.{count_data, node_reference}

-- what stands at an index, none where it is out of range
abbrev pub at : {A : Type 0} → ℤ → List A → Option A
at (pos i) xs = slice_get xs i
at (negsuc i) xs = None

abbrev pub children_of : Application → TreeRow → List TreeRow
children_of a row = tops (children_at (is_node row.shape.node) a.tree)

abbrev pub is_selected : TreeRow → Bool
is_selected row = has_state selected row.shape.states

abbrev pub selected_children : Application → TreeRow → List TreeRow
selected_children a row = filter is_selected (children_of a row)

-- whether the row that is there is selected
abbrev pub is_there_selected : Option TreeRow → Bool
is_there_selected None = false
is_there_selected (Some row) = is_selected row

-- the parent, which of the root is the registry's root
abbrev pub parent_data : Application → TreeRow → Data
parent_data a row = told (seat_of rows row.shape.node a.tree)
  where
    told : Option (Option ℕ × ℕ) → Data
    told (Some (Some p, i)) = node_reference a p
    told _ = registry_root

-- the index among the parent's children, -1 for the root
abbrev pub index_data : Application → TreeRow → Data
index_data a row = told (seat_of rows row.shape.node a.tree)
  where
    told : Option (Option ℕ × ℕ) → Data
    told (Some (Some p, i)) = count_data i
    told _ = int (negsuc 0)

-- the kinds of relations that have a target, rising, each with its targets in order
abbrev pub relations_data : Application → TreeRow → Data
relations_data a row =
    array_data (structure (kinds_of (number u32 ∷ array reference_kind ∷ [])))
    (items_of (map relation (filter has_target (numbers_to RELATION_KINDS))))
  where
    has_target : ℕ → Bool
    has_target kind = list_any (λ (r : ℕ × ℕ). r.0 == kind) row.shape.relations

    relation : ℕ → Data
    relation kind =
        structure_data (items_of (
        number_data u32 kind
        ∷ array_data reference_kind (items_of (map (node_reference a) (targets_of kind row.shape.relations)))
        ∷ []
        ))
