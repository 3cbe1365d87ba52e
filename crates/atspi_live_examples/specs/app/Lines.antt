-- The lines of servers, and one of an input.
use Rattle.std.specs.Prelude.{ℕ, List, [], ◌∷◌, ◌++◌, codes}
use Rattle.atspi_auth.specs.Lines.{end_of_line}

-- of one that lets a client in
abbrev pub granted : List ℕ
granted = codes "DATA" ++ (end_of_line ++ (codes "OK 61747370693200000000000000000001" ++ end_of_line))

-- of one that does not
abbrev pub rejected : List ℕ
rejected = codes "REJECTED EXTERNAL" ++ end_of_line

-- `app "T"`
abbrev pub named : List ℕ
named = codes "app " ++ 34 ∷ (codes "T" ++ 34 ∷ [])
