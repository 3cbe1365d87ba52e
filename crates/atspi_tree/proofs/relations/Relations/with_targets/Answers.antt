use Rattle.std.proofs.Common.{◌==◌, ◌++◌, ℕ, List, not, map, filter, ap, ◌∙◌}
use Rattle.atspi_tree.proofs.Together.{kept_with}
use Rattle.atspi_tree.proofs.relations.Relations.with_targets.Goals as goal

pub invariant_of-result : goal.invariant_of-result
invariant_of-result c =
    kept_with c.self.inside.pairs.items c.self.inside.targets.items c.self.invariant c.args.kind c.args.targets.now c.push_targets.new.relations.items c.in_ok-targets.targets.items
    (c.in_ok-push_targets.ensures ∙ ap (λ l. l ++ map (λ t. (c.args.kind, t)) c.args.targets.now) (c.in_ok-pairs.ensures ∙ ap (λ (l : List (ℕ × ℕ)). filter (λ r. not (r.0 == c.args.kind)) l) c.deref.ensures.value))
    (c.in_ok-targets.ensures ∙ ap (map (λ (r : ℕ × ℕ). r.1)) c.deref-2.ensures.value)
