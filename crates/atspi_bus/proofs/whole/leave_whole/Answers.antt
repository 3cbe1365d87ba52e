use Rattle.std.proofs.Common.{◌≡◌, ◌<◌, subst}
use Rattle.std.specs.Prelude.{OnOk, IsErrOf}
use Rattle.atspi_match.specs.routing.Queues.{Bus, leaves}
use Rattle.atspi_bus_steps.specs.InnerBus.{inner_of}
use Rattle.atspi_bus_steps.specs.declared.fault.BusFault.TheVariants.{Spent}
use Rattle.atspi_bus.proofs.whole.leave_whole.Goals as goal

pub returns-in-Ok-false-clause-ok : goal.returns-in-Ok-false-clause-ok
returns-in-Ok-false-clause-ok c =
    let same = rw c.in-Ok-false.field-0-test at c.in-Ok-false.ensures.ok in
    subst (λ (b : Bus). OnOk c.leave_on_copy.result (inner_of c.leave_on_copy.new.inner ≡ leaves b c.args.conn)) same c.leave_on_copy.ensures.ok

pub returns-in-Ok-false-clause-spent : goal.returns-in-Ok-false-clause-spent
returns-in-Ok-false-clause-spent c =
    let same = rw c.in-Ok-false.field-0-test at c.in-Ok-false.ensures.ok in
    subst (λ (b : Bus). IsErrOf c.leave_on_copy.result Spent → 4294967296 < (leaves b c.args.conn).state.next) same c.leave_on_copy.ensures.spent
