use Rattle.std.proofs.Common.{◌≡◌, All, Ok, length}
use Rattle.atspi_run.proofs.world.supply.Given as goal

abbrev pub invariant-things : goal.invariant-things
invariant-things g l =
    record {
      each : All (λ thing. goal.F-post g l.make (Ok thing)) l.things.items;
      count : length l.things.items ≡ l.counter;
    }
