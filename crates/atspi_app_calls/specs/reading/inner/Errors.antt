-- An answer, or the error that a call gets by its last word.
use Rattle.std.specs.Prelude.{ℕ, List, Result, Ok, Err}
use Rattle.atspi_protocol.specs.declared.ends.error.CallError.{CallError}
use Rattle.atspi_protocol.specs.ends.Messages.{error_word}

-- what an error is called
abbrev pub as_word : {A : Type 0} → Result A CallError → Result A (List ℕ)
as_word (Ok x) = Ok x
as_word (Err error) = Err (error_word error)
