use Rattle.std.proofs.Common.{map, take}
use Rattle.atspi_types.specs.Kinds.{kinds_of, AreLawful}
use Rattle.atspi_types.specs.KindView.{kind_of, kinds_in}
use Rattle.atspi_types.proofs.KindSize.{kind_size, kind_sizes}
use Rattle.atspi_types.proofs.ty.+lawful.Given as goal

abbrev pub decreases-Ty::is_lawful : goal.decreases-Ty::is_lawful
decreases-Ty::is_lawful a = kind_size (kind_of a.self.now)

abbrev pub decreases-Tys::are_lawful : goal.decreases-Tys::are_lawful
decreases-Tys::are_lawful a = kind_sizes (kinds_of (kinds_in a.self.now))

abbrev pub invariant-Tys::are_lawful-loop-ty : goal.invariant-Tys::are_lawful-loop-ty
invariant-Tys::are_lawful-loop-ty l = AreLawful (kinds_of (map kind_of (take l.ty-index l.ty-items)))
