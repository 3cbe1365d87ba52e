use Rattle.std.proofs.Common.{ap, ◌∙◌}
use Rattle.atspi_protocol.specs.exporting.Exporter.{Exporter, queues}
use Rattle.atspi_protocol.specs.exporting.Taking.{stepped}
use Rattle.atspi_app_known.specs.happenings.View.{happened}
use Rattle.atspi_app_exported.specs.Boxed.{parts_in}
use Rattle.atspi_app.specs.Seen.{with_tree}
use Rattle.atspi_app.proofs.app.App.do_steps.Goals as goal

pub returns-in-Ok-do_in_room-clause-ok : goal.returns-in-Ok-do_in_room-clause-ok
returns-in-Ok-do_in_room-clause-ok g c =
    c.in-Ok-do_in_room.ensures.ok ∙ ap (λ (s : Exporter). queues (stepped s c.args.steps.now) (happened c.args.told.now)) (c.in-Ok.ensures.same (with_tree (parts_in (λ b. (goal.Face-dyn g (b.vtable, b.value)).nodes b.value) c.args.self.now.exported) c.args.self.now.id))

pub returns-in-Err-do_in_room-clause-err : goal.returns-in-Err-do_in_room-clause-err
returns-in-Err-do_in_room-clause-err g c = c.in-Err-do_in_room.ensures.err ∙ c.in-Ok.ensures.same (with_tree (parts_in (λ b. (goal.Face-dyn g (b.vtable, b.value)).nodes b.value) c.args.self.now.exported) c.args.self.now.id)

pub returns-in-Err-clause-spent : goal.returns-in-Err-clause-spent
returns-in-Err-clause-spent g c = λ h.
    c.in-Err.ensures.spent h (stepped (with_tree (parts_in (λ b. (goal.Face-dyn g (b.vtable, b.value)).nodes b.value) c.args.self.now.exported) c.args.self.now.id) c.args.steps.now)

pub returns-in-Err-clause-err : goal.returns-in-Err-clause-err
returns-in-Err-clause-err g c = c.in-Err.ensures.same (with_tree (parts_in (λ b. (goal.Face-dyn g (b.vtable, b.value)).nodes b.value) c.args.self.now.exported) c.args.self.now.id)
