use Rattle.atspi_app_exported.specs.Boxed.{parts_in}
use Rattle.atspi_app.specs.Seen.{with_tree}
use Rattle.atspi_app.proofs.application.AppApplication.next.Goals as goal

pub returns-clause-rest : goal.returns-clause-rest
returns-clause-rest g c = c.next.ensures.rest (with_tree (parts_in (λ b. (goal.Face-dyn g (b.vtable, b.value)).nodes b.value) c.args.self.now.exported) c.args.self.now.id)
