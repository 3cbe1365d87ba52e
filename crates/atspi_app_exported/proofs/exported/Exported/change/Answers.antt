use Rattle.atspi_app_exported.specs.Boxed.{faces_in, parts_in}
use Rattle.atspi_app_exported.proofs.Changing.{can_do, text_done}
use Rattle.atspi_app_exported.proofs.exported.Exported.change.Goals as goal

pub change_text-requires-clause-can : goal.change_text-requires-clause-can
change_text-requires-clause-can g c = can_do c.args.self.now.tree.rows (faces_in (λ b. (goal.Face-dyn g (b.vtable, b.value)).nodes b.value) c.args.self.now.kit) c.args.self.now.tree.added c.args.step.now c.requires.of_text c.requires.applies

pub returns-clause-ok : goal.returns-clause-ok
returns-clause-ok g c = text_done (parts_in (λ b. (goal.Face-dyn g (b.vtable, b.value)).nodes b.value) c.args.self.now) c.args.step.now _ c.change_text.result c.requires.of_text c.change_text.ensures.ok
