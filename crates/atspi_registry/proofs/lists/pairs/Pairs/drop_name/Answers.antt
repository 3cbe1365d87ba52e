use Rattle.std.proofs.Common.{rules, not, ℕ, List, ap, ◌∙◌}
use Rattle.std.proofs.lemmas.Fn.{filter_same}
use Rattle.atspi_protocol.specs.registering.RegistryState.{is_of, pairs_without}
use Rattle.atspi_registry.proofs.lists.pairs.Pairs.drop_name.Goals as goal

pub returns : goal.returns
returns c =
    filter_same _ (λ (p : List ℕ × List ℕ). not (is_of c.args.name.now p)) _ (λ x b f' r. search rules) _ _ c.retain.ensures.filtered
    ∙ ap (λ ps. pairs_without ps c.args.name.now) c.self.view_is
