use Rattle.std.proofs.Common.{◌≡◌, ◌<◌, List, Option, subst}
use Rattle.std.specs.Prelude.{OnOk, IsErrOf}
use Rattle.atspi_message_in_place.specs.View.{envelope_at}
use Rattle.atspi_match.specs.declared.condition.Condition.{Condition}
use Rattle.atspi_match.specs.routing.Queues.{Bus, takes}
use Rattle.atspi_bus_steps.specs.InnerBus.{inner_of}
use Rattle.atspi_bus_steps.specs.Spoken.{IsRuleTaken}
use Rattle.atspi_bus_steps.specs.declared.fault.BusFault.TheVariants.{Spent}
use Rattle.atspi_bus.proofs.whole.take_whole.Goals as goal

pub returns-in-Ok-false-clause-ok : goal.returns-in-Ok-false-clause-ok
returns-in-Ok-false-clause-ok c =
    let same = rw c.in-Ok-false.field-0-test at c.in-Ok-false.ensures.ok in
    subst (λ (b : Bus). OnOk c.take_on_copy.result ((rule : Option (List Condition)) × IsRuleTaken b.state c.args.conn (envelope_at c.args.m.now) rule
    × (inner_of c.take_on_copy.new.inner ≡ takes b c.args.conn (envelope_at c.args.m.now) rule)))
    same c.take_on_copy.ensures.ok

pub returns-in-Ok-false-clause-spent : goal.returns-in-Ok-false-clause-spent
returns-in-Ok-false-clause-spent c =
    let same = rw c.in-Ok-false.field-0-test at c.in-Ok-false.ensures.ok in
    subst (λ (b : Bus). IsErrOf c.take_on_copy.result Spent → (rule : Option (List Condition)) × IsRuleTaken b.state c.args.conn (envelope_at c.args.m.now) rule
    × (4294967296 < (takes b c.args.conn (envelope_at c.args.m.now) rule).state.next))
    same c.take_on_copy.ensures.spent
