-- What the words of a command line ask for.
use Rattle.std.specs.Prelude.{◌≡◌, ℕ, ◌<◌, ◌≤◌, List, [], ◌∷◌, length, codes}
use Rattle.atspi_base.specs.Text.{HasNoZero}
use Rattle.atspi_run_desktop.specs.declared.words.TheConstants.{ADDRESS_LIMIT, PATH_LIMIT}

-- a socket can be at this path: the system's addresses have room for 107 bytes, and a zero byte ends one
pub record IsPath (path : List ℕ) : Type 0 where
  pub some : 0 < length path
  pub short : length path ≤ PATH_LIMIT
  pub no_zero : HasNoZero path

-- it can be told as the address of a bus
pub record IsAddress (address : List ℕ) : Type 0 where
  pub some : 0 < length address
  pub short : length address ≤ ADDRESS_LIMIT
  pub no_zero : HasNoZero address

abbrev pub IsWords : List ℕ → List ℕ → Type 0
IsWords path address = IsPath path × IsAddress address

-- the words are `launcher SESSION_PATH ADDRESS`
abbrev pub IsLauncher : List (List ℕ) → List ℕ → List ℕ → Type 0
IsLauncher (name ∷ place ∷ told ∷ []) path address =
    (name ≡ codes "launcher") × (place ≡ path) × (told ≡ address) × IsPath path × IsAddress address
IsLauncher _ path address = ⊥
