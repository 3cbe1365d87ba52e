use Rattle.std.proofs.Common.{◌≡◌, ℕ, Bool, not, cond, Some, None, nat_cmp, ap, sym}
use Rattle.std.specs.Prelude.{unwrap_or}
use Rattle.std.specs.Cmp.{nat_cmp_total}
use Rattle.std.specs.FinMap.{get, get-empty, get-insert, get-retain_keys, nat_cmp-IsAntisymmetric, retain_keys}
use Rattle.atspi_tree_model.specs.RowRules.{shapes}
use Rattle.atspi_tree_model.specs.Tree.{in_subtree}
use Rattle.atspi_hit.specs.Places.{Places, no_rect}
use Rattle.atspi_run_hit.specs.Wholes.{shape}
use Rattle.atspi_run_hit_examples.specs.Room.{room, tree_in}
use Rattle.atspi_run_hit_examples.proofs.scenes.made.Goals as goal

pub returns-clause-placed : goal.returns-clause-placed
returns-clause-placed c = λ s r. ap (λ o. Some (unwrap_or o no_rect)) (get-insert nat_cmp_total s.places 2 r 2)

pub returns-clause-another : goal.returns-clause-another
returns-clause-another c = λ s r. ap (λ o. Some (unwrap_or o no_rect)) (get-insert nat_cmp_total s.places 2 r 3)

pub returns-clause-none_placed : goal.returns-clause-none_placed
returns-clause-none_placed c = λ name. ap (λ o. unwrap_or o no_rect) (get-empty nat_cmp 0)

-- the nodes that a removal of the table leaves
abbrev left : ℕ → Bool
left m = not (in_subtree shapes 1 (shape (tree_in room)).rows m)

kept : (places : Places) (q : ℕ) → get (retain_keys places left) q ≡ cond (left q) (get places q) None
kept places q = get-retain_keys places left q (λ x e. ap left (sym (nat_cmp-IsAntisymmetric q x e)))

pub returns-clause-gone : goal.returns-clause-gone
returns-clause-gone c = λ places. ap (λ o. unwrap_or o no_rect) (kept places 1)

pub returns-clause-gone_below : goal.returns-clause-gone_below
returns-clause-gone_below c = λ places. ap (λ o. unwrap_or o no_rect) (kept places 2)

pub returns-clause-stays : goal.returns-clause-stays
returns-clause-stays c = λ places. ap (λ o. unwrap_or o no_rect) (kept places 0)
