-- The type of each property.
use Rattle.std.proofs.Common.{◌≡◌, ℕ, Option, Some, None, refl}
use Rattle.atspi_types.specs.Data.{type_of}
use Rattle.atspi_tree_model.specs.Row.{TreeRow}
use Rattle.atspi_tree_model.specs.RowRules.{rows}
use Rattle.atspi_tree_model.specs.Tree.{seat_of}
use Rattle.atspi_protocol.specs.ends.Places.{reference_kind}
use Rattle.atspi_protocol.specs.objects.Application.{Application}
use Rattle.atspi_protocol.specs.objects.Children.{parent_data}

pub parent_type : (a : Application) (row : TreeRow) → type_of (parent_data a row) ≡ reference_kind
parent_type a row = by (seat_of rows row.shape.node a.tree) refl
  where
    by : (o : Option (Option ℕ × ℕ)) → seat_of rows row.shape.node a.tree ≡ o → type_of (parent_data a row) ≡ reference_kind
    by None e = rw e refl
    by (Some (None, i)) e = rw e refl
    by (Some (Some p, i)) e = rw e refl
