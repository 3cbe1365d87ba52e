use Rattle.std.proofs.Common.{◌≡◌, ℕ, Bool, true, false, cond, List, [], ◌∷◌, refl, ap, ◌∙◌}
use Rattle.std.specs.Prelude.{filter, bytes_eq}
use Rattle.std.proofs.lemmas.Result.{IfOk-weaker}
use Rattle.atspi_tree_model.specs.declared.news.Item.{Item}
use Rattle.atspi_cache.specs.loading.Shared.{is_below, is_lower, shared}
use Rattle.atspi_cache.proofs.loading.groups.groups.Goals as goal

below : (root bus path : List ℕ) (xs : List Item) → filter (λ (item : Item). bytes_eq path item.parent.path) (filter (is_lower root bus) xs) ≡ filter (is_below root bus path) xs
below root bus path [] = refl
below root bus path (x ∷ xs) = at (bytes_eq x.object.path root) (bytes_eq x.parent.bus bus) (bytes_eq path x.parent.path) refl (below root bus path xs)
  where
    at : (a b d : Bool) → bytes_eq path x.parent.path ≡ d → filter (λ (item : Item). bytes_eq path item.parent.path) (filter (is_lower root bus) xs) ≡ filter (is_below root bus path) xs
        → filter (λ (item : Item). bytes_eq path item.parent.path) (cond (cond a false b) (x ∷ filter (is_lower root bus) xs) (filter (is_lower root bus) xs))
        ≡ cond (cond a false (cond b d false)) (x ∷ filter (is_below root bus path) xs) (filter (is_below root bus path) xs)
    at true b d e h = h
    at false false d e h = h
    at false true true e h = rw e (ap (λ l. x ∷ l) h)
    at false true false e h = rw e h

pub returns : goal.returns
returns c = IfOk-weaker c.by_parent.result _ _ (λ groups h path. h path ∙ ap (filter (λ (item : Item). bytes_eq path item.parent.path)) (ap shared c.deref.ensures.value ∙ c.in_ok-lower.ensures) ∙ below c.args.root.now c.args.bus.now path (shared c.args.own.now)) c.by_parent.ensures
