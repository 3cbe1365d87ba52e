use Rattle.std.proofs.Common.{ℕ, List, arith, subst}
use Rattle.atspi_message.specs.Front.{IsFirst, WrongFront}
use Rattle.atspi_stream.proofs.StreamLaws.{front_not_awaited}
use Rattle.atspi_world_links.proofs.reading.missing.Goals as goal

pub returns-in-Err-clause-awaits : goal.returns-in-Err-clause-awaits
returns-in-Err-clause-awaits c =
    let held = c.args.held.now in
    let wrong = subst (λ (f : List ℕ). IsFirst (WrongFront f) c.in-Err.field-0.place c.in-Err.field-0.reason) c.in-Some.ensures.cases.same c.in-Err.ensures.first in
    ((λ h. absurd (omega (arith, h))), (λ w. absurd (front_not_awaited held _ _ (omega (arith, c.in-Some.ensures.cases)) wrong w)))
