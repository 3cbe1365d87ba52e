-- Where each name stands in the list of applications.
use Rattle.std.specs.Prelude.{◌≡◌, ℕ, ◌-◌, nat_lt, List, Option, if◌then◌else◌}
use Rattle.std.specs.List.{position}
use Rattle.std.specs.BTreeMap.{get_by_text}
use Rattle.atspi_protocol.specs.following.ReaderState.{Followed, is_named}
use Rattle.atspi_reader_known.specs.Unique.{AreUnique}
use Rattle.atspi_reader_known.specs.declared.places.Places.{Places}

-- the place of a name in an index
abbrev pub place_in : Places → List ℕ → Option ℕ
place_in index name = get_by_text index.places name

-- a place, once another one is gone: one less where it stood behind that
abbrev pub moved_up : ℕ → ℕ → ℕ
moved_up gone place = if nat_lt gone place then place - 1 else place

-- no two applications have one name, and an index has the place of each name, and no other
abbrev pub AreFound : Places → List Followed → Type 0
AreFound index apps = AreUnique apps × ((name : List ℕ) → place_in index name ≡ position (is_named name) apps)
