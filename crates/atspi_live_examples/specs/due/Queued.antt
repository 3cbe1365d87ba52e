-- An end with one message, which waits until it is handed out, and what a server that lets it in writes.
use Rattle.std.specs.Prelude.{◌≡◌, ℕ, List, [], ◌∷◌, ◌++◌, codes}
use Rattle.atspi_auth.specs.Lines.{end_of_line}
use Rattle.atspi_message.specs.Envelope.{Envelope}

-- it took no messages; what it handed out, and behind that what waits, is its message
abbrev pub Has : Envelope → List Envelope → List Envelope → List Envelope → Type 0
Has m waiting took said = (took ≡ []) × (said ++ waiting ≡ m ∷ [])

-- nothing waits
abbrev pub IsEmpty : List Envelope → Type 0
IsEmpty waiting = waiting ≡ []

-- the lines of a server that lets a client in
abbrev pub granted : List ℕ
granted = codes "DATA" ++ (end_of_line ++ (codes "OK 61747370693200000000000000000001" ++ end_of_line))

-- the first line of a client, and its three lines
abbrev pub hail : List ℕ
hail = 0 ∷ codes "AUTH EXTERNAL" ++ end_of_line

abbrev pub lines : List ℕ
lines = hail ++ (codes "DATA" ++ (end_of_line ++ (codes "BEGIN" ++ end_of_line)))
