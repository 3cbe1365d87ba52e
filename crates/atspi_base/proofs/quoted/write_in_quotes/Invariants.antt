use Rattle.std.proofs.Common.{◌≡◌, ◌-◌, ◌≤◌, [], ◌∷◌, ◌++◌, take, length}
use Rattle.std.specs.List.{flat_map}
use Rattle.atspi_base.specs.Quoted.{escaped}
use Rattle.atspi_base.proofs.quoted.write_in_quotes.Given as goal

abbrev pub invariant-loop-at : goal.invariant-loop-at
invariant-loop-at l =
    record {
      written : l.out ≡ (l.fn.out ++ 34 ∷ []) ++ flat_map escaped (take l.at l.bytes);
      within : l.at ≤ length l.bytes;
    }

abbrev pub decreases-loop-at : goal.decreases-loop-at
decreases-loop-at l = length l.bytes - l.at
