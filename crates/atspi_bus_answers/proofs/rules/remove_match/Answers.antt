use Rattle.std.proofs.Common.{◌≡◌, sym, ap, subst, ◌∙◌, Some, refl}
use Rattle.atspi_match.specs.routing.Answers.{returns}
use Rattle.atspi_bus_answers.specs.Answered.{with_parts, Spells}
use Rattle.atspi_bus_answers.proofs.RulePairs.{any-stands, none-lost, removed, not_removed}
use Rattle.atspi_bus_answers.proofs.rules.remove_match.Goals as goal

pub returns-then-remove-clause-ok : goal.returns-then-remove-clause-ok
returns-then-remove-clause-ok c =
    let out = c.if-remove.ensures.one in (
      Some c.in-Some.rule,
      subst (Spells c.args.text.now) c.in-Some.is c.in_ok-rule.ensures,
      λ owners. removed (with_parts owners c.args.rules.now) c.args.conn c.in-Some.rule c.remove.new.self _
          (any-stands c.args.conn c.in-Some.rule c.args.rules.now out.front out.back out.was) c.remove.ensures.pairs (ap returns c.new.ensures),
    )

pub returns-clause-ok : goal.returns-clause-ok
returns-clause-ok c = (
  Some c.in-Some.rule,
  subst (Spells c.args.text.now) c.in-Some.is c.in_ok-rule.ensures,
  λ owners. not_removed (with_parts owners c.args.rules.now) c.args.conn c.in-Some.rule c.remove.new.self _
      (none-lost c.args.conn c.in-Some.rule c.args.rules.now (sym c.remove.ensures.pairs ∙ c.if-remove.ensures.one)) c.if-remove.ensures.one refl,
)
