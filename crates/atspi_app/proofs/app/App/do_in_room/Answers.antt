use Rattle.std.proofs.Common.{refl}
use Rattle.atspi_app_known.specs.happenings.View.{happened}
use Rattle.atspi_app_exported.specs.Boxed.{parts_in}
use Rattle.atspi_app.specs.Seen.{with_tree}
use Rattle.atspi_app.proofs.Shown.{seen_steps, seen_same}
use Rattle.atspi_app.proofs.app.App.do_in_room.Goals as goal

pub returns-in-Ok-clause-ok : goal.returns-in-Ok-clause-ok
returns-in-Ok-clause-ok g c =
    seen_steps (parts_in (λ b. (goal.Face-dyn g (b.vtable, b.value)).nodes b.value) c.args.self.now.exported) (parts_in (λ b. (goal.Face-dyn g (b.vtable, b.value)).nodes b.value) c.apply_call.new.self) c.args.self.now.id c.args.self.now.known c.post_in_room.new.self c.args.steps.now (happened c.args.told.now) c.in-Ok.ensures.ok c.in-Ok.ensures.added c.post_in_room.ensures

pub returns-in-Ok-clause-numbered : goal.returns-in-Ok-clause-numbered
returns-in-Ok-clause-numbered g c = c.is_numbered.ensures (with_tree (parts_in (λ b. (goal.Face-dyn g (b.vtable, b.value)).nodes b.value) c.apply_call.new.self) c.args.self.now.id)

pub returns-in-Err-clause-err : goal.returns-in-Err-clause-err
returns-in-Err-clause-err g c = seen_same (parts_in (λ b. (goal.Face-dyn g (b.vtable, b.value)).nodes b.value) c.args.self.now.exported) (parts_in (λ b. (goal.Face-dyn g (b.vtable, b.value)).nodes b.value) c.apply_call.new.self) c.args.self.now.id c.args.self.now.known c.args.self.now.known c.in-Err.ensures.err (λ s. refl)
