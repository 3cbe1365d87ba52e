-- The words of a live command: its name, the path of a socket, and for how many rounds.
use Rattle.std.specs.Prelude.{◌≡◌, ℕ, ◌<◌, ◌≤◌, List, [], ◌∷◌, length, codes}
use Rattle.std.specs.Fmt.{decimal}
use Rattle.atspi_base.specs.Text.{HasNoZero}
use Rattle.atspi_run_live.specs.declared.words.Service.{Service}
use Rattle.atspi_run_live.specs.declared.words.Service.TheVariants.{Bus, Registry, App, Read}
use Rattle.atspi_run_live.specs.declared.words.TheConstants.{APP_REST, FOR_GOOD, PATH_LIMIT, REST}

abbrev pub name_of : Service → List ℕ
name_of Bus = codes "bus"
name_of Registry = codes "registry"
name_of App = codes "app"
name_of Read = codes "read"

-- a socket can be at this path: the system's addresses have room for 107 bytes, and a zero byte ends one
pub record IsPath (path : List ℕ) : Type 0 where
  pub some : 0 < length path
  pub short : length path ≤ PATH_LIMIT
  pub no_zero : HasNoZero path

-- the word is a count of rounds, as a script spells numbers
pub record AreRounds (word : List ℕ) (rounds : ℕ) : Type 0 where
  pub word_is : word ≡ decimal rounds
  pub some : 0 < rounds
  pub few : rounds ≤ FOR_GOOD

-- the words are `NAME PATH ROUNDS`
abbrev pub IsLive : List (List ℕ) → Service → List ℕ → ℕ → Type 0
IsLive (name ∷ place ∷ count ∷ []) service path rounds =
    (name ≡ name_of service) × (place ≡ path) × IsPath path × AreRounds count rounds
IsLive _ service path rounds = ⊥

-- how long the host of a service may rest where nothing is ready, in milliseconds
abbrev pub rest_of : Service → ℕ
rest_of Bus = REST
rest_of Registry = REST
rest_of App = APP_REST
rest_of Read = REST
