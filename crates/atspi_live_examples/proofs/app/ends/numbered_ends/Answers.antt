use Rattle.std.proofs.Common.{◌≡◌, Bool, true, false}
use Rattle.atspi_live_examples.proofs.app.ends.numbered_ends.Goals as goal

pub returns : goal.returns
returns c marks lines s took said e a = by e a.numbered
  where
    by : {b : Bool} → b ≡ true → b ≡ false → ⊥
    by h k = cc
