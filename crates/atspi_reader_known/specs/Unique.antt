-- No two applications have one name.
use Rattle.std.specs.Prelude.{◌≡◌, false, List, [], ◌∷◌}
use Rattle.std.specs.List.{list_any}
use Rattle.atspi_protocol.specs.following.ReaderState.{Followed, is_named}

abbrev pub AreUnique : List Followed → Type 0
AreUnique [] = Unit {0}
AreUnique (app ∷ apps) = (list_any (is_named app.name) apps ≡ false) × AreUnique apps
