use Rattle.atspi_tree_model.specs.declared.step.Step.TheVariants.{Remove}
use Rattle.atspi_app_exported.proofs.Following.{applies_to_shape, removed_there}
use Rattle.atspi_whole_tree.specs.inner.Tables.{parts_of}
use Rattle.atspi_whole_tree.proofs.doing.remove.Goals as goal

pub close_subtree-requires : goal.close_subtree-requires
close_subtree-requires c = removed_there (parts_of c.args.held.now) c.args.node c.requires.can.applies

pub take_out-requires : goal.take_out-requires
take_out-requires c = applies_to_shape (parts_of c.args.held.now) (Remove c.args.node) c.requires.can.applies
