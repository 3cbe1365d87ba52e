use Rattle.std.proofs.Common.{sym, ap, ◌∙◌, subst, inl}
use Rattle.atspi_tree_model.specs.Row.{Each}
use Rattle.atspi_tree.specs.TreeShape.{TreeShape}
use Rattle.atspi_app_signals.specs.Asked.{CanBeTold}
use Rattle.atspi_app_known.specs.happenings.View.{happened}
use Rattle.atspi_app_exported.specs.Boxed.{parts_in}
use Rattle.atspi_app.proofs.FaultsOf.{end_is_spent}
use Rattle.atspi_app.proofs.OfEdits.{can_all_be_told, told_of_edit, edit_applies, edit_made, edit_is_spent}
use Rattle.atspi_app.proofs.app.App.make.Goals as goal

pub told-requires : goal.told-requires
told-requires g c = subst (λ (t : TreeShape). Each (CanBeTold t) c.args.steps.now) (sym c.tree.ensures) (can_all_be_told (parts_in (λ b. (goal.Face-dyn g (b.vtable, b.value)).nodes b.value) c.args.self.now.exported) c.args.edit.now c.args.steps.now c.requires.app.lawful c.requires.lawful c.requires.steps)

pub do_steps-requires-clause-done : goal.do_steps-requires-clause-done
do_steps-requires-clause-done g c = inl c.requires.one

pub do_steps-requires-clause-apply : goal.do_steps-requires-clause-apply
do_steps-requires-clause-apply g c = edit_applies (parts_in (λ b. (goal.Face-dyn g (b.vtable, b.value)).nodes b.value) c.args.self.now.exported) c.args.edit.now c.args.steps.now c.requires.app.lawful c.requires.lawful c.requires.steps

pub returns-in-Ok-do_steps-clause-ok : goal.returns-in-Ok-do_steps-clause-ok
returns-in-Ok-do_steps-clause-ok g c =
    edit_made (parts_in (λ b. (goal.Face-dyn g (b.vtable, b.value)).nodes b.value) c.args.self.now.exported) c.args.self.now.id c.args.self.now.known c.args.edit.now c.args.steps.now (happened c.in-Ok.told) _ c.requires.steps
    (told_of_edit (parts_in (λ b. (goal.Face-dyn g (b.vtable, b.value)).nodes b.value) c.args.self.now.exported) c.args.self.now.known c.args.edit.now c.args.steps.now (happened c.in-Ok.told) c.requires.steps (λ f e. c.in-Ok.ensures f (e ∙ sym (ap (λ (t : TreeShape). t.rows) c.tree.ensures))))
    c.in-Ok-do_steps.ensures.ok

pub returns-in-Ok-clause-spent : goal.returns-in-Ok-clause-spent
returns-in-Ok-clause-spent g c = λ h.
    edit_is_spent (parts_in (λ b. (goal.Face-dyn g (b.vtable, b.value)).nodes b.value) c.args.self.now.exported) c.args.self.now.id c.args.self.now.known c.args.edit.now c.args.steps.now (happened c.in-Ok.told) c.requires.steps
    (told_of_edit (parts_in (λ b. (goal.Face-dyn g (b.vtable, b.value)).nodes b.value) c.args.self.now.exported) c.args.self.now.known c.args.edit.now c.args.steps.now (happened c.in-Ok.told) c.requires.steps (λ f e. c.in-Ok.ensures f (e ∙ sym (ap (λ (t : TreeShape). t.rows) c.tree.ensures))))
    (c.in-Err-do_steps.ensures.spent (end_is_spent c.in-Err-do_steps.fault c.from.result c.from.ensures h))
