use Rattle.std.proofs.Common.{rules}
use Rattle.atspi_app_exported.specs.Boxed.{faces_in}
use Rattle.atspi_run_hit.proofs.Exporting.{columns_of_none}
use Rattle.atspi_run_hit.proofs.exported.ExportedWhole.columns.Goals as goal

pub returns : goal.returns
returns g c = columns_of_none c.args.self.now.tree.rows (faces_in (λ b. (goal.Face-dyn g (b.vtable, b.value)).nodes b.value) c.args.self.now.kit) c.args.node (search rules)
