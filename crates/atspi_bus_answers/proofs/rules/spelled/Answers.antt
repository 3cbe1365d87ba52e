use Rattle.std.proofs.Common.{sym, subst}
use Rattle.std.specs.Prelude.{Err}
use Rattle.atspi_match.specs.Grammar.{IsRuleText}
use Rattle.atspi_match.specs.Parsing.{IsThisRule}
use Rattle.atspi_bus_answers.proofs.rules.spelled.Goals as goal

pub returns-in-Err-Bad : goal.returns-in-Err-Bad
returns-in-Err-Bad c rule is =
    subst (λ e. IsThisRule (Err e) rule) c.in-Err-Bad.field-0-is (c.in-Err-Bad.ensures.only rule (subst (λ b. IsRuleText b rule) (sym c.as_bytes.ensures.value) is))
