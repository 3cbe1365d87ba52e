use Rattle.std.proofs.Common.{◌≡◌, length, take}
use Rattle.atspi_reader_known.specs.Places.{AreFound}
use Rattle.atspi_reader_known.proofs.apps.cut.Given as goal

-- the front is as it was, and the index is of what is there
abbrev pub invariant-loop-items : goal.invariant-loop-items
invariant-loop-items l = record {
  front : take l.count l.items.items ≡ take l.count l.fn.items.items;
  found : AreFound l.fn.places l.fn.items.items → AreFound l.places l.items.items;
}

-- one less each time
abbrev pub decreases-loop-items : goal.decreases-loop-items
decreases-loop-items l = length l.items.items
