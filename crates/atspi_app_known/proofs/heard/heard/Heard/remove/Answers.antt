use Rattle.std.proofs.Common.{rules, not, ℕ, List, ap, ◌∙◌, chars}
use Rattle.std.specs.Prelude.{filter}
use Rattle.std.proofs.lemmas.Fn.{filter_same}
use Rattle.atspi_protocol.specs.exporting.Hearing.{is_pair}
use Rattle.atspi_app_known.proofs.heard.heard.Heard.remove.Goals as goal

pub returns-clause-heard : goal.returns-clause-heard
returns-clause-heard c =
    filter_same _ (λ (q : List ℕ × List ℕ). not (is_pair (c.args.name.now, chars c.args.pattern.now) q)) _ (λ x b f' r. search rules) _ _ c.retain.ensures.filtered
    ∙ ap (filter (λ (q : List ℕ × List ℕ). not (is_pair (c.args.name.now, chars c.args.pattern.now) q))) c.self.view_is
