use Rattle.atspi_app_exported.specs.Boxed.{parts_in}
use Rattle.atspi_run_hit.proofs.Exporting.{edit_refused, edited_so}
use Rattle.atspi_run_hit.proofs.exported.ExportedWhole.edit.Goals as goal

pub returns-in-Ok-apply_all-clause-exact : goal.returns-in-Ok-apply_all-clause-exact
returns-in-Ok-apply_all-clause-exact g c = edited_so (parts_in (λ b. (goal.Face-dyn g (b.vtable, b.value)).nodes b.value) c.args.self.now) _ c.args.edit.now c.in-Ok.steps c.in-Ok.ensures.exact c.in-Ok-apply_all.ensures.ok c.in-Ok-apply_all.ensures.added

pub returns-clause-exact : goal.returns-clause-exact
returns-clause-exact g c = edit_refused c.in-Err.fault (parts_in (λ b. (goal.Face-dyn g (b.vtable, b.value)).nodes b.value) c.args.self.now) _ c.args.edit.now c.in-Err.ensures.exact
