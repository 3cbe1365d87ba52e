use Rattle.std.proofs.Common.{arith}
use Rattle.atspi_types.proofs.SpellingLemmas.{extent_more, kinds_all}
use Rattle.atspi_types.proofs.ty.+extent.Goals as goal

pub Tys::extent-loop-ty-preserved : goal.Tys::extent-loop-ty-preserved
Tys::extent-loop-ty-preserved t c =
    extent_more c.loop-ty.all c.extent.result c.and-all.result c.deref-ty-items.result.now c.loop-ty.ty-index c.ty-item.result (omega arith) c.ty-item.is c.loop-ty.invariant c.extent.ensures
    c.and-all.ensures.bytes c.and-all.ensures.arrays c.and-all.ensures.structs

pub Tys::extent-returns : goal.Tys::extent-returns
Tys::extent-returns t c = rw (kinds_all c.args.self.now c.deref-ty-items.result.now c.loop-ty.ty-index c.deref-ty-items.ensures.value (omega arith)) at c.loop-ty.invariant
