use Rattle.std.proofs.Common.{◌≡◌, map, take}
use Rattle.atspi_types.specs.KindView.{kind_of}
use Rattle.atspi_types.proofs.ty.+copy.Given as goal

abbrev pub invariant-Tys::copy-loop-ty : goal.invariant-Tys::copy-loop-ty
invariant-Tys::copy-loop-ty l = map kind_of l.items.items ≡ map kind_of (take l.ty-index l.ty-items)
