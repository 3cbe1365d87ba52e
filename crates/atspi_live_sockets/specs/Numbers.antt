-- The numbers of links in use.
use Rattle.std.specs.Prelude.{ℕ, List, map}
use Rattle.atspi_live_sockets.specs.declared.open_link.Open.{Open}

abbrev pub numbers : List Open → List ℕ
numbers os = map (λ o. o.number) os
