use Rattle.std.proofs.Common.{sym, ap, ◌∙◌, subst}
use Rattle.std.proofs.lemmas.Result.{on_ok_weaker}
use Rattle.atspi_match.specs.RuleGroups.{IsNarrowest}
use Rattle.atspi_match.proofs.NotedLemmas.{noted_here, noted_stays, set_since}
use Rattle.atspi_match.proofs.rule_groups.RuleGroups.note.Goals as goal

pub returns-clause-narrowest : goal.returns-clause-narrowest
returns-clause-narrowest c =
    on_ok_weaker c.put_in.result
    (λ s. (
      c.narrowest-number.result,
      subst (λ l. IsNarrowest c.args.self.now.sets l c.narrowest-number.result) c.conditions.ensures.conditions c.narrowest-number.ensures,
      set_since c.args.self.now.sets c.count_all.new.self.sets c.put_in.new.self.sets c.narrowest-number.result c.args.place _ c.count_all.ensures s,
    ))
    c.put_in.ensures.ok

pub returns-clause-noted : goal.returns-clause-noted
returns-clause-noted c =
    on_ok_weaker c.put_in.result
    (λ s. noted_here c.count_all.new.self c.put_in.new.self c.narrowest-number.result c.args.rule.now c.args.place
    (subst (λ l. IsNarrowest c.args.self.now.sets l c.narrowest-number.result) c.conditions.ensures.conditions c.narrowest-number.ensures).own s)
    c.put_in.ensures.ok

pub returns-clause-stays : goal.returns-clause-stays
returns-clause-stays c =
    noted_stays c.put_in.result c.args.self.now c.count_all.new.self c.put_in.new.self c.narrowest-number.result c.args.place c.count_all.ensures c.put_in.ensures.ok c.put_in.ensures.err
