use Rattle.std.proofs.Common.{◌≡◌, map, take}
use Rattle.atspi_types.specs.Kinds.{kinds_of}
use Rattle.atspi_types.specs.KindView.{kind_of, kinds_in}
use Rattle.atspi_types.proofs.KindSize.{kind_size, kind_sizes}
use Rattle.atspi_types.proofs.ty.+same.Given as goal

abbrev pub decreases-Ty::is : goal.decreases-Ty::is
decreases-Ty::is a = kind_size (kind_of a.self.now)

abbrev pub decreases-Tys::is : goal.decreases-Tys::is
decreases-Tys::is a = kind_sizes (kinds_of (kinds_in a.self.now))

abbrev pub invariant-Tys::is-loop-i : goal.invariant-Tys::is-loop-i
invariant-Tys::is-loop-i l = map kind_of (take l.i l.ours) ≡ map kind_of (take l.i l.theirs)
