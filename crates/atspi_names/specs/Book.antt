-- What is kept beside the lists mirrors them.
use Rattle.std.specs.Prelude.{◌≡◌, ℕ, List}
use Rattle.atspi_names.specs.Queue.{stands}
use Rattle.atspi_names.specs.Owners.{Lists, list_of, HasNoEmptyList}
use Rattle.atspi_names.specs.Standings.{Standings, notes}

-- a connection is noted at the names in whose lists it stands, and at no others
abbrev pub Mirrors : Standings → Lists → Type 0
Mirrors standings lists = (c : ℕ) (q : List ℕ) → notes standings c q ≡ stands c (list_of lists q)

pub record IsKept (lists : Lists) (standings : Standings) : Type 0 where
  pub no_empty : HasNoEmptyList lists
  pub mirrored : Mirrors standings lists
