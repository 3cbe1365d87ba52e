-- An end that sends no messages.
use Rattle.std.specs.Prelude.{◌≡◌, ℕ, List, [], ◌∷◌, ◌++◌, codes}
use Rattle.atspi_auth.specs.Lines.{end_of_line}
use Rattle.atspi_message.specs.Envelope.{Envelope}

-- it took no messages and handed out none; the number tells nothing
abbrev pub Says : ℕ → List Envelope → List Envelope → Type 0
Says n took said = (took ≡ []) × (said ≡ [])

-- it has no messages left
abbrev pub IsDone : ℕ → Type 0
IsDone n = n ≡ 0

-- the first line of a client
abbrev pub hail : List ℕ
hail = 0 ∷ codes "AUTH EXTERNAL" ++ end_of_line

-- an end that took just this message
abbrev pub Took : Envelope → ℕ → List Envelope → List Envelope → Type 0
Took e n took said = (took ≡ e ∷ []) × (said ≡ [])

-- no message takes its own past the last number
abbrev pub IsNeverSpent : ℕ → Envelope → Type 0
IsNeverSpent n e = ⊥

-- the lines of a server that lets a client in
abbrev pub granted : List ℕ
granted = codes "DATA" ++ (end_of_line ++ (codes "OK 61747370693200000000000000000001" ++ end_of_line))

-- the line of one that does not
abbrev pub rejected : List ℕ
rejected = codes "REJECTED EXTERNAL" ++ end_of_line

-- just this message takes its own past the last number
abbrev pub IsSpentWith : Envelope → ℕ → Envelope → Type 0
IsSpentWith e n m = m ≡ e

-- an end that is there in the first round alone
abbrev pub SaysFirst : ℕ → ℕ → List Envelope → List Envelope → Type 0
SaysFirst round n took said = (round ≡ 1) × (took ≡ []) × (said ≡ [])
