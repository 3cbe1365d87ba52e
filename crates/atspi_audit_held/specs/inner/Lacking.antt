-- Which nodes of a shape have a part that was not told.
use Rattle.std.specs.Prelude.{◌≡◌, ℕ, ◌&&◌, not, cond, Bool, true, if◌then◌else◌}
use Rattle.std.specs.Ordering.{nat_cmp}
use Rattle.std.specs.BTreeMap.{is_at}
use Rattle.std.specs.BTreeSet.{contains}
use Rattle.atspi_tree_model.specs.declared.contents.Kinds.{Kinds}
use Rattle.atspi_tree_model.specs.declared.step.Step.{Step}
use Rattle.atspi_tree_model.specs.declared.step.Step.TheVariants.{Add, Remove}
use Rattle.atspi_tree_model.specs.Forest.{Forest, has}
use Rattle.atspi_tree_model.specs.Row.{ShapeRow}
use Rattle.atspi_tree_model.specs.Tree.{is_shape}
use Rattle.atspi_tree_model.specs.View.{Told}
use Rattle.atspi_protocol.specs.declared.news.part.PartName.{PartName}
use Rattle.atspi_protocol.specs.declared.news.part.PartName.TheVariants.{Text, Caret, Columns}
use Rattle.atspi_audit_held.specs.Held.{nothing, told_by}
use Rattle.atspi_audit_held.specs.declared.marks.Marks.{Marks}

-- of no node any part
abbrev pub no_parts : ℕ → Told
no_parts n = nothing

-- one more part
abbrev pub told_with : Told → PartName → Told
told_with told Text = record told { text = true }
told_with told Caret = record told { caret = true }
told_with told Columns = record told { columns = true }

-- a node with these interfaces has a part that was not told
abbrev pub lacks : Told → Kinds → Bool
lacks told kinds =
    if kinds.text && not (told.text && told.caret) then true else (kinds.table && not told.columns)

-- the node with this number is there and has one
abbrev pub lacking_row : (ℕ → Told) → ℕ → ShapeRow → Bool
lacking_row told n row = is_shape n row && lacks (told n) row.kinds

abbrev pub lacks_at : (ℕ → Told) → Forest ShapeRow → ℕ → Bool
lacks_at told f n = has (lacking_row told n) f

-- the nodes that are noted as lacking are just those
abbrev pub AreMarks : Marks → Forest ShapeRow → Type 0
AreMarks marks f = (n : ℕ) → contains nat_cmp marks.lacking n ≡ lacks_at (told_by marks.told.entries) f n

-- a step that neither adds nor removes a node
abbrev pub IsOther : Step → Type 0
IsOther (Add n p i seed) = ⊥
IsOther (Remove n) = ⊥
IsOther step = Unit {0}

-- what was told of a node is one part more
abbrev pub Tells : ℕ → PartName → (ℕ → Told) → (ℕ → Told) → Type 0
Tells node part old new = (n : ℕ) → new n ≡ cond (is_at (nat_cmp node) n) (told_with (old node) part) (old n)
