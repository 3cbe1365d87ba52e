-- What a reader holds of an application.
use Rattle.std.specs.Prelude.{◌≡◌, ℕ, ◌<◌, ◌^◌, refl, false, List, Option, None, Some}
use Rattle.std.specs.Coded.{Coded, code_by, coded×}
use Rattle.std.specs.Ordering.{nat_cmp}
use Rattle.std.specs.Map.{lookup}
use Rattle.std.specs.BTreeMap.{is_at}
use Rattle.atspi_tree_model.specs.Path.{path_of}
use Rattle.atspi_tree_model.specs.View.{Told}
use Rattle.atspi_whole_tree.specs.Whole.{AppTree, app_tree_code}
use Rattle.atspi_audit_held.specs.declared.known.Known.{Known}

-- the tree as of the last message that it took, and which parts it was told since it loaded the tree, by the nodes'
-- numbers; the numbers of no node count too, since they may come to be
pub record Holds : Type 0 where
  pub tree : AppTree
  pub told : List (ℕ × Known)

abbrev pub holds_code : Coded (List (ℕ × Known)) → Coded Holds
holds_code known_code =
    code_by (AppTree × List (ℕ × Known)) (coded× app_tree_code known_code) (λ h. (h.tree, h.told))
    (λ p. record { tree = p.0; told = p.1 }) (λ _. refl)

-- what was told of a node
abbrev pub told_of : Known → Told
told_of known = record { text = known.text; caret = known.caret; columns = known.columns }

abbrev pub nothing : Told
nothing = record { text = false; caret = false; columns = false }

abbrev pub or_nothing : Option Known → Told
or_nothing None = nothing
or_nothing (Some known) = told_of known

abbrev pub told_by : List (ℕ × Known) → ℕ → Told
told_by entries n = or_nothing (lookup (is_at (nat_cmp n)) entries)

-- parts that were told by paths are those that were told by the nodes' numbers
abbrev pub Agrees : (List ℕ → Told) → (ℕ → Told) → Type 0
Agrees by_path by_number = (n : ℕ) → n < 2 ^ 32 → by_path (path_of n) ≡ by_number n
