-- A node has fewer children than a number of 32 bits counts; and the characters of the application's name.
use Rattle.std.proofs.Common.{◌≡◌, ℕ, ◌≤◌, length, refl, arith}
use Rattle.std.specs.Str.{chars as characters}
use Rattle.atspi_tree.specs.TreeShape.{TreeShape, IsLawful, children_of}
use Rattle.atspi_tree_model.specs.Forest.{children_at}
use Rattle.atspi_tree_model.specs.Tree.{is_shape}
use Rattle.atspi_tree.proofs.Trees.{width-numbers}
use Rattle.atspi_protocol.proofs.OfAnnouncing.Bounds.{width-count, count-children}
use Rattle.atspi_run_hit.specs.Told.{application}

pub few_children : (t : TreeShape) (n : ℕ) → IsLawful t → length (children_of n t) ≤ 8192
few_children t n law =
    let w = width-count (children_at (is_shape n) t.rows) in
    let c = count-children (is_shape n) t.rows in
    let e = width-numbers (children_at (is_shape n) t.rows) in
    let few = law.few in
    omega arith

pub application_chars : characters application ≡ application
unfolding characters
application_chars = refl
