use Rattle.atspi_app_exported.specs.Boxed.{kinds_in, parts_in}
use Rattle.atspi_app_exported.proofs.Following.{exported_by, whole_by, added_by_step}
use Rattle.atspi_app_exported.proofs.exported.Exported.apply.Goals as goal

pub returns-clause-exported : goal.returns-clause-exported
returns-clause-exported g c = exported_by (kinds_in (λ b. (goal.Face-dyn g (b.vtable, b.value)).of_kind b.value) c.args.self.now.kit) (parts_in (λ b. (goal.Face-dyn g (b.vtable, b.value)).nodes b.value) c.args.self.now) _ _ c.args.step.now c.do_step.result c.requires.exported c.requires.applies c.do_step.ensures.ok c.do_step.ensures.err c.do_step.ensures.kinds

pub returns-clause-ok : goal.returns-clause-ok
returns-clause-ok g c = whole_by (kinds_in (λ b. (goal.Face-dyn g (b.vtable, b.value)).of_kind b.value) c.args.self.now.kit) (parts_in (λ b. (goal.Face-dyn g (b.vtable, b.value)).nodes b.value) c.args.self.now) _ c.args.step.now c.do_step.result c.requires.exported c.requires.applies c.do_step.ensures.ok

pub returns-clause-added : goal.returns-clause-added
returns-clause-added g c = added_by_step (parts_in (λ b. (goal.Face-dyn g (b.vtable, b.value)).nodes b.value) c.args.self.now) _ c.args.step.now c.do_step.result c.do_step.ensures.ok
