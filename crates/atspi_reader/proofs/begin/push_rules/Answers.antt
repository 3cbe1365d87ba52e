use Rattle.std.proofs.Common.{codes, refl}
use Rattle.std.proofs.lemmas.Result.{on_ok_weaker}
use Rattle.atspi_reader.proofs.Events.{behind_three, rule_is}
use Rattle.atspi_reader.proofs.begin.push_rules.Goals as goal

pub returns : goal.returns
returns c =
    on_ok_weaker c.push_rule-3.result
    (λ same. behind_three c.args.calls.now.items c.push_rule.new.calls.items c.push_rule-2.new.calls.items c.push_rule-3.new.calls.items _ _ _ _ _ _ c.in_ok-push_rule.ensures c.in_ok-push_rule-2.ensures same
    (rule_is (codes "type='signal',interface='org.freedesktop.DBus',member='NameOwnerChanged'") refl)
    (rule_is (codes "type='signal',interface='org.a11y.atspi.Cache'") refl)
    (rule_is (codes "type='signal',interface='org.a11y.atspi.Event.Object'") refl))
    c.push_rule-3.ensures
