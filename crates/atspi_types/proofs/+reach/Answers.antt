use Rattle.std.proofs.Common.{arith}
use Rattle.atspi_types.specs.Borrowed.{ref_data}
use Rattle.atspi_types.specs.DataView.{all_data}
use Rattle.atspi_types.proofs.TypeLemmas.{size_at, types_whole, types_extent_more}
use Rattle.atspi_types.proofs.+reach.Goals as goal

pub value::Values::extent-extent-requires : goal.value::Values::extent-extent-requires
value::Values::extent-extent-requires t c =
    let below = size_at (all_data c.args.self.now) c.loop-i.i (ref_data c.at.result) c.at.ensures in
    (omega (arith, below, c.decreases), tt)

pub value::Values::extent-loop-i-preserved : goal.value::Values::extent-loop-i-preserved
value::Values::extent-loop-i-preserved t c =
    types_extent_more c.loop-i.all c.extent.result c.and-all.result (all_data c.args.self.now) c.loop-i.i (ref_data c.at.result) c.at.ensures c.loop-i.invariant c.extent.ensures
    c.and-all.ensures.bytes c.and-all.ensures.arrays c.and-all.ensures.structs

pub value::Values::extent-returns : goal.value::Values::extent-returns
value::Values::extent-returns t c = rw (types_whole (all_data c.args.self.now) c.loop-i.i (omega (arith, c.len-i-end.ensures))) at c.loop-i.invariant
