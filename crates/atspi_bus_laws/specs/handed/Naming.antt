-- The unique names of ends, and those that letters bear.
use Rattle.std.specs.Prelude.{◌≡◌, ◌⊎◌, ◌<◌, ◌≤◌, ◌++◌, ℕ, List, [], ◌∷◌, None, Some}
use Rattle.std.specs.List.{AllByRecursion}
use Rattle.atspi_script_lines.specs.declared.line.Party.{Party}
use Rattle.atspi_script_lines.specs.declared.line.Party.TheVariants.{Bus as The_bus}
use Rattle.atspi_names.specs.Owners.{Owners, own_name, unique_name}
use Rattle.atspi_match.specs.routing.BusState.{unique_of}
use Rattle.atspi_trace.specs.World.{Standing, here, stopped, away, Role, Said, Letter, End, newcomer, first_world}
use Rattle.atspi_trace.specs.Ends.{end_at, put_up}
use Rattle.atspi_trace.specs.Carrying.{Carried, takes, takes_end}
use Rattle.atspi_message.specs.Spellable.{IsSpellable}
use Rattle.atspi_bus_laws.specs.handed.Handing.{HandsLetters}

-- a letter of an end: it bears that end's unique name
pub record IsFromEnd (ends : List End) (l : Letter) : Type 0 where
  pub conn : ℕ
  pub sender : End
  pub there : end_at ends conn ≡ Some sender
  pub from : l.from ≡ sender.who
  pub name : List ℕ
  pub unique : sender.unique ≡ Some name
  pub bears : l.said.message.sender ≡ Some name

-- or it is from the bus, and bears the bus's name
abbrev pub IsSigned : List End → Letter → Type 0
IsSigned ends l = ((l.from ≡ The_bus) × (l.said.message.sender ≡ Some own_name)) ⊎ IsFromEnd ends l

abbrev pub HasLeft : Standing → Type 0
HasLeft away = Unit {0}
HasLeft here = ⊥
HasLeft stopped = ⊥

-- an end has a name that the bus gave, and as long as it has not left, the one that the bus knows it by; the bus knows
-- none that has left
pub record IsNamed (owners : Owners) (conn : ℕ) (e : End) : Type 0 where
  pub given : (name : List ℕ) → e.unique ≡ Some name → (n : ℕ) × (n < owners.given) × (name ≡ unique_name n)
  pub known : (HasLeft e.standing → ⊥) → e.unique ≡ unique_of owners conn
  pub gone : HasLeft e.standing → unique_of owners conn ≡ None

-- THE NAMES OF ENDS DIFFER, and each letter bears its sender's; nobody else has one
pub record AreNamed (owners : Owners) (ends : List End) : Type 0 where
  pub each : (conn : ℕ) (e : End) → end_at ends conn ≡ Some e → IsNamed owners conn e
  pub others : (conn : ℕ) → end_at ends conn ≡ None → unique_of owners conn ≡ None
  pub differ : (j k : ℕ) (d e : End) (name : List ℕ) → end_at ends j ≡ Some d → end_at ends k ≡ Some e
      → d.unique ≡ Some name → e.unique ≡ Some name → j ≡ k
  pub signed : (conn : ℕ) (e : End) → end_at ends conn ≡ Some e → AllByRecursion (IsSigned ends) e.down

-- so it is in the first world, and it stays so whoever joins, and whatever the bus takes: a message of an end that has
-- not left, or an end
pub record NamesStay : Type 0 where
  pub begins : (quota : ℕ) → AreNamed (first_world quota).bus.state.owners (first_world quota).ends
  pub joined : (owners : Owners) (ends : List End) (who : Party) (role : Role) (saids : List Said)
      → AreNamed owners ends → AreNamed owners (ends ++ put_up saids (newcomer who role) ∷ [])
  pub taken : (c : Carried) (conn : ℕ) (e : End) (said : Said) → HandsLetters c → AreNamed c.bus.state.owners c.ends
      → end_at c.ends conn ≡ Some e → (HasLeft e.standing → ⊥) → IsSpellable said.message
      → (takes c conn e.who said).bus.state.next ≤ 4294967296
      → AreNamed (takes c conn e.who said).bus.state.owners (takes c conn e.who said).ends
  pub ended : (c : Carried) (conn : ℕ) → HandsLetters c → AreNamed c.bus.state.owners c.ends
      → (takes_end c conn).bus.state.next ≤ 4294967296
      → AreNamed (takes_end c conn).bus.state.owners (takes_end c conn).ends
