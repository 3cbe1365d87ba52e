-- How long the messages of the bus's own are.
use Rattle.std.specs.Prelude.{◌⊎◌, ◌≤◌, ℕ, List, Option, length}
use Rattle.std.specs.List.{AllByRecursion}
use Rattle.atspi_message.specs.Envelope.{Envelope}
use Rattle.atspi_message.specs.Bytes.{written}
use Rattle.atspi_message.specs.Length.{ListsTexts}
use Rattle.atspi_message.specs.Spellable.{IsSpellable}
use Rattle.atspi_match.specs.declared.condition.Condition.{Condition}
use Rattle.atspi_match.specs.routing.BusState.{BusState}
use Rattle.atspi_match.specs.routing.Steps.{bus_takes, bus_leaves}
use Rattle.atspi_match.specs.routing.Queues.{own_of}
use Rattle.atspi_bus_laws.specs.handed.Known.{IsKnown}

-- at most 4,096 bytes are written of it, or it lists texts
abbrev pub IsShortOrList : Envelope → Type 0
IsShortOrList e = (length (written e) ≤ 4096) ⊎ ListsTexts e

-- so it is of all that the bus says, whatever it takes and whoever leaves
pub record OnlyListsAreLong : Type 0 where
  pub taken : (s : BusState) (conn : ℕ) (e : Envelope) (rule : Option (List Condition)) → IsKnown s → IsSpellable e
      → (bus_takes s conn e rule).state.next ≤ 4294967296
      → AllByRecursion IsShortOrList (own_of (bus_takes s conn e rule).moves)
  pub left : (s : BusState) (conn : ℕ) → IsKnown s → (bus_leaves s conn).state.next ≤ 4294967296
      → AllByRecursion IsShortOrList (own_of (bus_leaves s conn).moves)
