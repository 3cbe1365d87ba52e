use Rattle.std.proofs.Common.{◌==◌, ℕ, not, ap, ◌∙◌, rules}
use Rattle.std.proofs.lemmas.Fn.{filter_same}
use Rattle.atspi_tree_model.specs.Row.{without_targets}
use Rattle.atspi_tree.proofs.Together.{kept_without}
use Rattle.atspi_tree.proofs.relations.Relations.drop_target.Goals as goal

pub invariant_of-self : goal.invariant_of-self
invariant_of-self c =
    kept_without c.self.inside.pairs.items c.self.inside.targets.items c.self.invariant c.args.target c.retain.new.self.items c.retain-2.new.self.items
    (filter_same _ (λ (r : ℕ × ℕ). not (r.1 == c.args.target)) _ (λ x b f' k. search rules) _ _ c.retain.ensures.filtered)
    (filter_same _ (λ (t : ℕ). not (t == c.args.target)) _ (λ x b f' k. search rules) _ _ c.retain-2.ensures.filtered)

pub returns : goal.returns
returns c =
    filter_same _ (λ (r : ℕ × ℕ). not (r.1 == c.args.target)) _ (λ x b f' k. search rules) _ _ c.retain.ensures.filtered
    ∙ ap (without_targets (λ t. t == c.args.target)) c.self.view_is
