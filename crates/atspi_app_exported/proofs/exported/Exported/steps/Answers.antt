use Rattle.atspi_app_exported.specs.Boxed.{parts_in}
use Rattle.atspi_app_exported.proofs.Steps.{steps_answered, answered_apply, answered_one}
use Rattle.atspi_app_exported.proofs.exported.Exported.steps.Goals as goal

pub returns-clause-exact : goal.returns-clause-exact
returns-clause-exact g c = steps_answered (parts_in (λ b. (goal.Face-dyn g (b.vtable, b.value)).nodes b.value) c.args.self.now) c.in_ok-known.known c.args.edit.now c.steps_of.result c.in_ok-known.ensures.read c.steps_of.ensures.exact

pub returns-clause-apply : goal.returns-clause-apply
returns-clause-apply g c =
    answered_apply (parts_in (λ b. (goal.Face-dyn g (b.vtable, b.value)).nodes b.value) c.args.self.now) c.args.edit.now c.steps_of.result c.requires.exported.lawful c.requires.lawful
    (steps_answered (parts_in (λ b. (goal.Face-dyn g (b.vtable, b.value)).nodes b.value) c.args.self.now) c.in_ok-known.known c.args.edit.now c.steps_of.result c.in_ok-known.ensures.read c.steps_of.ensures.exact)

pub returns-clause-one : goal.returns-clause-one
returns-clause-one g c =
    answered_one (parts_in (λ b. (goal.Face-dyn g (b.vtable, b.value)).nodes b.value) c.args.self.now) c.args.edit.now c.steps_of.result
    (steps_answered (parts_in (λ b. (goal.Face-dyn g (b.vtable, b.value)).nodes b.value) c.args.self.now) c.in_ok-known.known c.args.edit.now c.steps_of.result c.in_ok-known.ensures.read c.steps_of.ensures.exact)
