use Rattle.std.proofs.Common.{codes, refl}
use Rattle.std.proofs.lemmas.Result.{on_ok_weaker}
use Rattle.atspi_reader.proofs.Events.{behind_five, pattern_is}
use Rattle.atspi_reader.proofs.begin.push_patterns.Goals as goal

pub returns : goal.returns
returns c =
    on_ok_weaker c.push_pattern-5.result
    (λ same. behind_five c.args.calls.now.items c.push_pattern.new.calls.items c.push_pattern-2.new.calls.items c.push_pattern-3.new.calls.items c.push_pattern-4.new.calls.items c.push_pattern-5.new.calls.items _ _ _ _ _ _ _ _ _ _ c.in_ok-push_pattern.ensures c.in_ok-push_pattern-2.ensures c.in_ok-push_pattern-3.ensures c.in_ok-push_pattern-4.ensures same
    (pattern_is (codes "object:children-changed") refl)
    (pattern_is (codes "object:property-change") refl)
    (pattern_is (codes "object:state-changed") refl)
    (pattern_is (codes "object:text-changed") refl)
    (pattern_is (codes "object:text-caret-moved") refl))
    c.push_pattern-5.ensures
