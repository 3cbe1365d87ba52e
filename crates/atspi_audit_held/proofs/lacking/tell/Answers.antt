use Rattle.std.proofs.Common.{refl, sym, ◌∙◌}
use Rattle.std.proofs.lemmas.Result.{on_ok_weaker}
use Rattle.atspi_audit_held.specs.Held.{told_by}
use Rattle.atspi_audit_held.specs.inner.Lacking.{told_with}
use Rattle.atspi_audit_held.proofs.Telling.{agrees_besides, agrees_more}
use Rattle.atspi_audit_held.proofs.lacking.tell.Goals as goal

pub returns-in-Some-clause-told : goal.returns-in-Some-clause-told
returns-in-Some-clause-told c =
    on_ok_weaker c.tell_node.result
    (λ tells parts a.
    agrees_more parts c.args.path.now c.in-Some.node c.args.part (told_by c.args.marks.now.told.entries) (told_by c.tell_node.new.marks.told.entries)
    (told_with (told_by c.args.marks.now.told.entries c.in-Some.node) c.args.part) (c.in-Some.ensures ∙ c.as_str.ensures.bytes) refl tells a)
    c.tell_node.ensures.told

pub returns-in-None-clause-told : goal.returns-in-None-clause-told
returns-in-None-clause-told c = λ parts a.
    agrees_besides parts c.args.path.now c.args.part (told_by c.args.marks.now.told.entries) (λ n l e. c.in-None.ensures n l (e ∙ sym c.as_str.ensures.bytes)) a
