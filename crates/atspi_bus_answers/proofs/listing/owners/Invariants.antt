use Rattle.std.proofs.Common.{◌≡◌, ℕ, take, map, Some}
use Rattle.atspi_types.specs.Data.{text_data}
use Rattle.atspi_types.specs.DataView.{all_data}
use Rattle.atspi_match.specs.routing.BusState.{name_or_empty}
use Rattle.atspi_bus_answers.proofs.listing.owners.Given as goal

abbrev pub invariant-loop-conn : goal.invariant-loop-conn
invariant-loop-conn l = all_data l.values ≡ map text_data (map (λ (e : ℕ × ℕ). name_or_empty l.names (Some e.0)) (take l.conn-index l.queue))
