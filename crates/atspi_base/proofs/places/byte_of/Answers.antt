use Rattle.std.proofs.Common.{arith}
use Rattle.std.specs.Str.Iter.{chars_rest}
use Rattle.atspi_base.proofs.PlaceLemmas.{walk_step, cut_walked}
use Rattle.atspi_base.proofs.places.byte_of.Goals as goal

pub loop-i-preserved : goal.loop-i-preserved
loop-i-preserved c = walk_step chars_rest _ _ _ _ _ c.utf8.text c.loop-i.invariant c.next.ensures.steps.0

pub returns : goal.returns
returns c = cut_walked _ _ _ _ _ c.utf8.text c.loop-i.invariant c.as_str.ensures (omega arith)
