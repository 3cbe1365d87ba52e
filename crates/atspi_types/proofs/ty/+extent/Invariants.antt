use Rattle.std.proofs.Common.{map, take}
use Rattle.atspi_types.specs.Kinds.{kinds_of}
use Rattle.atspi_types.specs.KindView.{kind_of}
use Rattle.atspi_types.specs.inner.Extents.{IsExtent}
use Rattle.atspi_types.proofs.ty.+extent.Given as goal

abbrev pub invariant-Tys::extent-loop-ty : goal.invariant-Tys::extent-loop-ty
invariant-Tys::extent-loop-ty l = IsExtent l.all (kinds_of (map kind_of (take l.ty-index l.ty-items)))
