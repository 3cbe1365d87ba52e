use Rattle.std.proofs.Common.{◌≡◌, ◌++◌, map, take}
use Rattle.atspi_types.specs.Kinds.{kinds_of}
use Rattle.atspi_types.specs.KindView.{kind_of, kinds_in}
use Rattle.atspi_types.specs.Signatures.{signature_bytes}
use Rattle.atspi_types.proofs.KindSize.{kind_size, kind_sizes}
use Rattle.atspi_types.proofs.ty.+write.Given as goal

abbrev pub decreases-Ty::spell : goal.decreases-Ty::spell
decreases-Ty::spell a = kind_size (kind_of a.self.now)

abbrev pub decreases-Tys::spell : goal.decreases-Tys::spell
decreases-Tys::spell a = kind_sizes (kinds_of (kinds_in a.self.now))

abbrev pub invariant-Tys::spell-loop-ty : goal.invariant-Tys::spell-loop-ty
invariant-Tys::spell-loop-ty l = (l.out ≡ l.fn.out ++ signature_bytes (kinds_of (map kind_of (take l.ty-index l.ty-items))))
