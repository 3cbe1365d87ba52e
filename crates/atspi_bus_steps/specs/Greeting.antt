-- What is told where a connection gets its unique name.
use Rattle.std.specs.Prelude.{ℕ, Bool, true, List, [], ◌∷◌, ◌++◌, Option, None, Some, codes, bytes_eq, if◌then◌else◌}
use Rattle.atspi_names.specs.Owners.{own_name}
use Rattle.atspi_types.specs.Data.{text_data}
use Rattle.atspi_message.specs.Envelope.{Envelope}
use Rattle.atspi_match.specs.routing.OwnMessages.{signal, return_to, owner_changed}
use Rattle.atspi_match.specs.routing.Routing.{expects_reply}

abbrev pub greeting : List ℕ → Envelope → List Envelope
greeting name e =
    (if expects_reply e then return_to (Some name) e.serial (text_data name ∷ []) ∷ [] else [])
    ++ (signal (codes "NameAcquired") (Some name) (text_data name ∷ []) ∷ (owner_changed name [] name ∷ []))

-- the interface of a Hello is the bus's, or there is none
abbrev pub is_bus_or_none : Option (List ℕ) → Bool
is_bus_or_none None = true
is_bus_or_none (Some interface) = bytes_eq interface own_name
