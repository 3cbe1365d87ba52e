use Rattle.atspi_app_exported.specs.Boxed.{parts_in}
use Rattle.atspi_app_exported.proofs.Following.{applies_to_shape, state_there}
use Rattle.atspi_app_exported.proofs.exported.Exported.reshape.Goals as goal

pub set_state-requires-clause-there : goal.set_state-requires-clause-there
set_state-requires-clause-there g c = state_there (parts_in (λ b. (goal.Face-dyn g (b.vtable, b.value)).nodes b.value) c.args.self.now) c.args.step.now c.in-SetState.node c.in-SetState.state c.in-SetState.on c.in-SetState.is c.requires.applies

pub apply-requires : goal.apply-requires
apply-requires g c = applies_to_shape (parts_in (λ b. (goal.Face-dyn g (b.vtable, b.value)).nodes b.value) c.args.self.now) c.args.step.now c.requires.applies
