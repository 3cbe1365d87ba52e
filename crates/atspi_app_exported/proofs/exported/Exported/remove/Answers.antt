use Rattle.atspi_app_exported.specs.Boxed.{parts_in}
use Rattle.atspi_tree_model.specs.declared.step.Step.TheVariants.{Remove}
use Rattle.atspi_app_exported.proofs.Following.{applies_to_shape, removed_there}
use Rattle.atspi_app_exported.proofs.exported.Exported.remove.Goals as goal

pub close_subtree-requires : goal.close_subtree-requires
close_subtree-requires g c = removed_there (parts_in (λ b. (goal.Face-dyn g (b.vtable, b.value)).nodes b.value) c.args.self.now) c.args.node c.requires.applies

pub take_out-requires : goal.take_out-requires
take_out-requires g c = applies_to_shape (parts_in (λ b. (goal.Face-dyn g (b.vtable, b.value)).nodes b.value) c.args.self.now) (Remove c.args.node) c.requires.applies
