-- What the bus hands on is a message that its bytes spell.
use Rattle.std.specs.Prelude.{◌≤◌, ℕ}
use Rattle.std.specs.List.{AllByRecursion}
use Rattle.atspi_script_lines.specs.declared.line.Party.{Party}
use Rattle.atspi_message.specs.Bytes.{IsMessage, written}
use Rattle.atspi_trace.specs.World.{Said, Letter, End, first_world}
use Rattle.atspi_trace.specs.Carrying.{Carried, takes, takes_end}
use Rattle.atspi_message.specs.Spellable.{IsSpellable}
use Rattle.atspi_bus_laws.specs.handed.Known.{IsKnown}

-- a letter: its bytes spell its message
abbrev pub IsLetter : Letter → Type 0
IsLetter l = IsMessage l.said.message (written l.said.message)

abbrev pub AreLetters : End → Type 0
AreLetters e = AllByRecursion IsLetter e.down

-- so it is of all that waits on down links, under a quota of at most 64 MiB, and the bus knows what it needs to go on
-- so
pub record HandsLetters (c : Carried) : Type 0 where
  pub quota : c.bus.quota ≤ 67108864
  pub known : IsKnown c.bus.state
  pub letters : AllByRecursion AreLetters c.ends

-- so it is in the first world, and it stays so whatever the bus takes, a message that can be written or an end, as long
-- as it has serials
pub record LettersAreSpelled : Type 0 where
  pub begins : (quota : ℕ) → quota ≤ 67108864
      → HandsLetters (record { bus = (first_world quota).bus; ends = (first_world quota).ends })
  pub taken : (c : Carried) (conn : ℕ) (who : Party) (said : Said) → HandsLetters c → IsSpellable said.message
      → (takes c conn who said).bus.state.next ≤ 4294967296 → HandsLetters (takes c conn who said)
  pub ended : (c : Carried) (conn : ℕ) → HandsLetters c → (takes_end c conn).bus.state.next ≤ 4294967296
      → HandsLetters (takes_end c conn)
