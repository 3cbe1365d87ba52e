use Rattle.std.proofs.lemmas.Grind.{common_steps}
use Rattle.std.proofs.Common.{Err, Some, map, refl, sym, ap, ◌∙◌, subst, arith}
use Rattle.atspi_trace.specs.Work.{of_edit}
use Rattle.atspi_world_parties.specs.Doing.{EditsAt}
use Rattle.atspi_world_parties.specs.Asked.{EditSpends, EditIsRefused}
use Rattle.atspi_world_parties.proofs.Queued.{written_back, tells_as}
use Rattle.atspi_world.proofs.Reasons.{edit_why}
use Rattle.atspi_world.proofs.Sayings.{edit_world}
use Rattle.atspi_world_parties.proofs.ElementsSpent.{edit_accepted}
use Rattle.atspi_world_parties.proofs.Faults.{given_is}
use Rattle.atspi_world.proofs.Faults.{edit_was_spent}
use Rattle.atspi_world.proofs.Spending.{edit_spent}
use Rattle.atspi_world.proofs.stage.Stage.edit.Goals as goal

pub returns-clause-does : goal.returns-clause-does
returns-clause-does g c = λ p is there.
    let exporter = g.A.Application.exporter in
    edit_world p c.args.conn c.args.app c.args.edit.now _ _ (map exporter c.edit_at.new.apps) is there
    (subst (λ l. EditsAt (map exporter l) (map exporter c.edit_at.new.apps) c.args.app c.args.edit.now) c.deref_mut.ensures.value c.in_ok-edit_at.ensures.edited)
    (tells_as _ _ _ _ _ _ _ _ c.args.app c.args.conn _ _ (ap (map exporter) (c.deref_mut-2.ensures.value ∙ written_back _ c.edit_at.new.apps _ (omega arith))) (ap (map exporter) (sym (written_back _ c.tell_app_at.new.apps _ (omega arith))))
    c.deref_mut-3.ensures.value (sym (written_back _ c.tell_app_at.new.posts _ (omega arith))) c.in_ok-tell_app_at.ensures.told)
    refl refl refl (record { registry = refl; kits = refl; spares = refl })

pub returns-in_err-edit_at-clause-refused : goal.returns-in_err-edit_at-clause-refused
returns-in_err-edit_at-clause-refused g c = λ why is.
    let exporter = g.A.Application.exporter in
    edit_why c.in_err-edit_at.field-0.0 c.from_residual.result why (λ o. EditIsRefused o (map exporter c.args.self.now.cast.apps.items) c.args.app c.args.edit.now) c.from_residual.ensures.1 is
    (λ fault e. subst (λ l. EditIsRefused (Some (of_edit fault)) (map exporter l) c.args.app c.args.edit.now) c.deref_mut.ensures.value (c.in_err-edit_at.ensures.refused fault (ap Err e)))

pub returns-in_err-edit_at-clause-allowed : goal.returns-in_err-edit_at-clause-allowed
returns-in_err-edit_at-clause-allowed g c = λ is.
    let exporter = g.A.Application.exporter in
    let fault = edit_was_spent c.in_err-edit_at.field-0.0 (given_is c.from_residual.result _ _ c.from_residual.ensures.1 is) in
    edit_accepted (map exporter c.args.self.now.cast.apps.items) c.args.app c.args.edit.now
    (subst (λ l. EditSpends (map exporter l) c.args.app c.args.edit.now) c.deref_mut.ensures.value (c.in_err-edit_at.ensures.spent (ap Err fault)))

pub returns-in_err-edit_at-clause-spent : goal.returns-in_err-edit_at-clause-spent
returns-in_err-edit_at-clause-spent g c = λ is p playing there.
    let exporter = g.A.Application.exporter in
    let fault = edit_was_spent c.in_err-edit_at.field-0.0 (given_is c.from_residual.result _ _ c.from_residual.ensures.1 is) in
    edit_spent p c.args.conn c.args.app c.args.edit.now _ _ playing there
    (subst (λ l. EditSpends (map exporter l) c.args.app c.args.edit.now) c.deref_mut.ensures.value (c.in_err-edit_at.ensures.spent (ap Err fault))) refl refl

pub returns-in_err-edit_at-clause-stage : goal.returns-in_err-edit_at-clause-stage
returns-in_err-edit_at-clause-stage g c = grind (arith, common_steps)

pub returns-in_err-edit_at-clause-nothing : goal.returns-in_err-edit_at-clause-nothing
returns-in_err-edit_at-clause-nothing g c = grind (arith, common_steps)

pub tell_app_at-requires : goal.tell_app_at-requires
tell_app_at-requires g c = grind (arith, common_steps)

pub returns-in_err-tell_app_at-clause-stage : goal.returns-in_err-tell_app_at-clause-stage
returns-in_err-tell_app_at-clause-stage g c = grind (arith, common_steps)

pub returns-clause-stage : goal.returns-clause-stage
returns-clause-stage g c = grind (arith, common_steps)
