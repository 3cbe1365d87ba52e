-- A reader that has started, and what it did, for values that are worked out by hand.
use Rattle.std.specs.Prelude.{ℕ, List, [], ◌∷◌, ◌++◌, codes}
use Rattle.atspi_auth.specs.Lines.{end_of_line}
use Rattle.atspi_protocol.specs.following.ReaderState.{Done, speaks, tells_end}

abbrev pub hail : List ℕ
hail = 0 ∷ codes "AUTH EXTERNAL" ++ end_of_line

abbrev pub name : List ℕ
name = codes ":1.2"

-- what was done of an application, and the lines of that
abbrev pub told : List Done
told = speaks name (codes "OK") ∷ tells_end name ∷ speaks name (codes "Save") ∷ []

abbrev pub said : List ℕ
said = codes "say :1.2 " ++ 34 ∷ (codes "OK" ++ 34 ∷ 10 ∷ (codes "say :1.2 " ++ 34 ∷ (codes "Save" ++ 34 ∷ 10 ∷ [])))
