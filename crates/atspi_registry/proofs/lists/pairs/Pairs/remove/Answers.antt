use Rattle.std.proofs.Common.{rules, not, ℕ, List, ap, ◌∙◌, chars}
use Rattle.std.proofs.lemmas.Fn.{filter_same}
use Rattle.atspi_protocol.specs.registering.RegistryState.{is_pair, without_pair}
use Rattle.atspi_registry.proofs.lists.pairs.Pairs.remove.Goals as goal

pub returns : goal.returns
returns c =
    filter_same _ (λ (p : List ℕ × List ℕ). not (is_pair c.args.name.now (chars c.args.pattern.now) p)) _ (λ x b f' r. search rules) _ _ c.retain.ensures.filtered
    ∙ ap (λ ps. without_pair ps c.args.name.now (chars c.args.pattern.now)) c.self.view_is
