use Rattle.std.proofs.Common.{◌∙◌}
use Rattle.atspi_message_in_place.specs.View.{envelope_at}
use Rattle.atspi_bus_steps.specs.InnerBus.{inner_of}
use Rattle.atspi_bus.proofs.Joined.{taken-like}
use Rattle.atspi_bus.proofs.Replying.{both-more, err-more}
use Rattle.atspi_bus.proofs.whole.take_in_place.Goals as goal

pub returns-in-Ok-false-clause-ok : goal.returns-in-Ok-false-clause-ok
returns-in-Ok-false-clause-ok c =
    let first = inner_of c.take_in_place.new.self in
    let same = rw c.in-Ok-false.field-0-test at c.in-Ok-false.ensures.ok in
    both-more _ _ _ _ c.answer_in_place.result
    (taken-like first (inner_of c.args.inner.now) (inner_of c.answer_in_place.new.inner) c.args.conn (envelope_at c.args.m.now) same)
    (λ is. is ∙ same)
    c.answer_in_place.ensures.ok

pub returns-in-Ok-false-clause-err : goal.returns-in-Ok-false-clause-err
returns-in-Ok-false-clause-err c =
    let same = rw c.in-Ok-false.field-0-test at c.in-Ok-false.ensures.ok in
    err-more _ _ c.answer_in_place.result (λ is. is ∙ same) c.answer_in_place.ensures.err
