use Rattle.atspi_app_exported.specs.Boxed.{kinds_in, parts_in}
use Rattle.atspi_app_exported.proofs.Following.{applies_to_shape, new_is_unknown, add_undone}
use Rattle.atspi_app_exported.proofs.exported.Exported.add.Goals as goal

pub open-requires-clause-no_text : goal.open-requires-clause-no_text
open-requires-clause-no_text g c = (new_is_unknown (kinds_in (λ b. (goal.Face-dyn g (b.vtable, b.value)).of_kind b.value) c.args.self.now.kit) (parts_in (λ b. (goal.Face-dyn g (b.vtable, b.value)).nodes b.value) c.args.self.now) c.args.step.now c.args.node c.args.seed.now c.requires.exported c.requires.applies c.requires.is).0

pub open-requires-clause-no_columns : goal.open-requires-clause-no_columns
open-requires-clause-no_columns g c = (new_is_unknown (kinds_in (λ b. (goal.Face-dyn g (b.vtable, b.value)).of_kind b.value) c.args.self.now.kit) (parts_in (λ b. (goal.Face-dyn g (b.vtable, b.value)).nodes b.value) c.args.self.now) c.args.step.now c.args.node c.args.seed.now c.requires.exported c.requires.applies c.requires.is).1

pub open-requires-clause-no_actions : goal.open-requires-clause-no_actions
open-requires-clause-no_actions g c = (new_is_unknown (kinds_in (λ b. (goal.Face-dyn g (b.vtable, b.value)).of_kind b.value) c.args.self.now.kit) (parts_in (λ b. (goal.Face-dyn g (b.vtable, b.value)).nodes b.value) c.args.self.now) c.args.step.now c.args.node c.args.seed.now c.requires.exported c.requires.applies c.requires.is).2

pub apply-requires : goal.apply-requires
apply-requires g c = applies_to_shape (parts_in (λ b. (goal.Face-dyn g (b.vtable, b.value)).nodes b.value) c.args.self.now) c.args.step.now c.requires.applies

pub returns-in-Err-clause-err : goal.returns-in-Err-clause-err
returns-in-Err-clause-err g c =
    add_undone (parts_in (λ b. (goal.Face-dyn g (b.vtable, b.value)).nodes b.value) c.args.self.now) _ c.args.node c.args.seed.now _ _ _ _ _ _ c.in-Err.ensures.err
    (new_is_unknown (kinds_in (λ b. (goal.Face-dyn g (b.vtable, b.value)).of_kind b.value) c.args.self.now.kit) (parts_in (λ b. (goal.Face-dyn g (b.vtable, b.value)).nodes b.value) c.args.self.now) c.args.step.now c.args.node c.args.seed.now c.requires.exported c.requires.applies c.requires.is)
    c.in_ok-open.ensures.text c.in_ok-open.ensures.columns c.in_ok-open.ensures.actions c.close.ensures.texts c.close.ensures.columns c.close.ensures.actions
