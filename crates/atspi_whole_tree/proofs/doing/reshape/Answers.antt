use Rattle.atspi_app_exported.proofs.Following.{applies_to_shape}
use Rattle.atspi_whole_tree.specs.inner.Tables.{parts_of}
use Rattle.atspi_whole_tree.proofs.doing.reshape.Goals as goal

pub apply-requires : goal.apply-requires
apply-requires c = applies_to_shape (parts_of c.args.held.now) c.args.step.now c.requires.can.applies
