-- Numbers of links below the next one.
use Rattle.std.specs.Prelude.{◌≡◌, ℕ, ◌+◌, ◌≤◌, List, Option, Some}
use Rattle.std.specs.List.{All}
use Rattle.atspi_live_host.specs.declared.call.Call.{Call}
use Rattle.atspi_live_host.specs.declared.call.Call.TheVariants.{Listen, Accept, Connect, Read, Write, Close}

-- one more than the link that a call moves bytes on
abbrev pub bound : Call → ℕ
bound (Listen path did) = 0
bound (Accept did) = 0
bound (Connect path did) = 0
bound (Read link bytes did) = link + 1
bound (Write link bytes did) = link + 1
bound (Close link) = 0

-- all told calls that move bytes are on links below n
abbrev pub ToldBelow : ℕ → Option (List Call) → Type 0
ToldBelow n calls = (cs : List Call) → calls ≡ Some cs → All (λ c. bound c ≤ n) cs
