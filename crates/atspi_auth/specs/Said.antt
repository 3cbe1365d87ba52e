-- The bytes of the lines that the two ends send.
use Rattle.std.specs.Prelude.{ℕ, List, ◌∷◌, ◌++◌, codes}
use Rattle.atspi_auth.specs.Lines.{end_of_line}
use Rattle.atspi_auth.specs.declared.said.AuthLine.{AuthLine}
use Rattle.atspi_auth.specs.declared.said.AuthLine.TheVariants.{Granted, Data, Rejected, Error, Hail, Begin}

-- what is sent for a line
abbrev pub bytes_of : AuthLine → List ℕ
bytes_of Granted = codes "OK 61747370693200000000000000000001" ++ end_of_line
bytes_of Data = codes "DATA" ++ end_of_line
bytes_of Rejected = codes "REJECTED EXTERNAL" ++ end_of_line
bytes_of Error = codes "ERROR" ++ end_of_line
bytes_of Hail = 0 ∷ codes "AUTH EXTERNAL" ++ end_of_line
bytes_of Begin = codes "BEGIN" ++ end_of_line
