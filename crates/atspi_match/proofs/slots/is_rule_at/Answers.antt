use Rattle.std.proofs.Common.{◌≡◌, true, false, refl, sym, ap, ◌∙◌}
use Rattle.std.specs.Prelude.{Some, None}
use Rattle.std.specs.Option.{option_copied}
use Rattle.atspi_match.specs.Slots.{Pair, is_this}
use Rattle.atspi_match.proofs.slots.is_rule_at.Goals as goal

one_pair : {p q : Pair} → Some p ≡ Some q → p ≡ q
one_pair e = cc

no_pair : {q : Pair} → None ≡ Some q → ⊥
no_pair e = cc

not_so : false ≡ true → ⊥
not_so e = cc

pub returns-in-Some-clause-tested : goal.returns-in-Some-clause-tested
returns-in-Some-clause-tested c =
    c.is_pair.ensures.tested ∙ ap (is_this c.args.conn c.args.rule.now) (ap option_copied (sym c.in-Some.is) ∙ c.rule_at.ensures)

pub returns-in-Some-clause-same : goal.returns-in-Some-clause-same
returns-in-Some-clause-same c =
    let at = ap option_copied (sym c.in-Some.is) ∙ c.rule_at.ensures in (
      λ t. sym at ∙ ap (λ (p : Pair). Some p) (c.is_pair.ensures.same.0 t),
      λ e. c.is_pair.ensures.same.1 (one_pair (at ∙ e)),
    )

pub returns-in-None-clause-tested : goal.returns-in-None-clause-tested
returns-in-None-clause-tested c = ap (is_this c.args.conn c.args.rule.now) (ap option_copied (sym c.in-None.is) ∙ c.rule_at.ensures)

pub returns-in-None-clause-same : goal.returns-in-None-clause-same
returns-in-None-clause-same c = (
  λ t. absurd (not_so t),
  λ e. absurd (no_pair (ap option_copied (sym c.in-None.is) ∙ c.rule_at.ensures ∙ e)),
)
