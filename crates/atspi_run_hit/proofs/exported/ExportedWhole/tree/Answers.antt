use Rattle.std.proofs.Common.{sym, ◌∙◌}
use Rattle.atspi_app_exported.specs.Boxed.{parts_in}
use Rattle.atspi_run_hit.proofs.Exporting.{same_shape}
use Rattle.atspi_run_hit.proofs.exported.ExportedWhole.tree.Goals as goal

pub returns : goal.returns
returns g c = c.tree.ensures ∙ sym (same_shape (parts_in (λ b. (goal.Face-dyn g (b.vtable, b.value)).nodes b.value) c.args.self.now))
