-- The last two would need a place below itself, or a number that is 0 and 1.
use Rattle.std.proofs.Common.{◌≡◌, ◌<◌, refl, arith}
use Rattle.atspi_pool.proofs.examples.fronts_are_told.Goals as goal

pub returns : goal.returns
returns c = record {
  some = (omega arith, λ e. omega arith);
  empty = (omega arith, λ e. refl);
  unused = tt;
  whole_block = λ h. let lt : 256 < 256 = h.0 in omega arith;
  popped_empty = λ h. let e : 1 ≡ 0 = h.1 refl in omega arith;
}
