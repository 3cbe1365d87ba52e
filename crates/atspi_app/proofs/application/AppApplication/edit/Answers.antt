use Rattle.atspi_app_exported.specs.Boxed.{parts_in}
use Rattle.atspi_app.proofs.FaultsOf.{edit_is_refused, edit_is_not_spent, refused_by}
use Rattle.atspi_app.proofs.Shown.{edit_refused}
use Rattle.atspi_app.proofs.application.AppApplication.edit.Goals as goal

pub returns-in-Ok-clause-refused : goal.returns-in-Ok-clause-refused
returns-in-Ok-clause-refused g c = λ why h. absurd (c.make.ensures.never_refused why h)

pub returns-in-Err-clause-refused : goal.returns-in-Err-clause-refused
returns-in-Err-clause-refused g c = λ why h.
    edit_refused (parts_in (λ b. (goal.Face-dyn g (b.vtable, b.value)).nodes b.value) c.args.self.now.exported) c.args.self.now.id c.args.self.now.known c.args.edit.now why
    (refused_by c.in-Err.fault why _ (edit_is_refused c.in-Err.fault c.edit_fault.result why c.edit_fault.ensures h) c.in-Err.ensures.exact)

pub returns-in-Err-clause-spent : goal.returns-in-Err-clause-spent
returns-in-Err-clause-spent g c = λ h. absurd (edit_is_not_spent c.in-Err.fault c.edit_fault.result c.edit_fault.ensures h)
