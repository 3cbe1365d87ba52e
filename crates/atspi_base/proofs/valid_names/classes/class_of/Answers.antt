use Rattle.std.proofs.Common.{◌<◌, refl, arith}
use Rattle.atspi_base.proofs.OfValidNames.WalkLemmas.{classes_are}
use Rattle.atspi_base.proofs.valid_names.classes.class_of.Goals as goal

pub returns : goal.returns
returns c = let small : c.args.byte < 256 = omega arith in classes_are _ c.args.byte small refl
