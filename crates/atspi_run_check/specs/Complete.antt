-- What follows where nothing that `check` is lent fails: which inputs give which status.
use Rattle.std.specs.Prelude.{◌≡◌, ◌⊎◌, ℕ, List, Option, IfSome}
use Rattle.atspi_base.specs.Outside.{Rose}
use Rattle.atspi_stream.specs.Laws.{AreBytes}
use Rattle.atspi_run_check.specs.Check.{CheckedAll, CheckedFault, CheckedLimit}

-- no call of it failed: its count of faults did not rise
abbrev pub NoneFailed : ℕ → ℕ → Type 0
NoneFailed before after = Rose before after → ⊥

-- this status, or memory is wanting
abbrev pub OrMemory : ℕ → ℕ → Type 0
OrMemory due status = (status ≡ due) ⊎ (status ≡ 5)

-- EACH INPUT ENDS AS IS DUE: messages alone, within the limit, give 0; a first fault inside the limit gives 6, that the
-- input ends inside a message too; and an input that passes the limit with no fault inside it gives 8
pub record EndsAsDue (limit status : ℕ) (input : List ℕ) : Type 0 where
  pub whole : (text : List ℕ) → CheckedAll limit input text → OrMemory 0 status
  pub fault : (text : List ℕ) → CheckedFault limit input text → OrMemory 6 status
  pub past : (text : List ℕ) → CheckedLimit limit input text → OrMemory 8 status

-- the same of what a source tells that it has
abbrev pub EndsAsDueOf : ℕ → ℕ → Option (List ℕ) → Type 0
EndsAsDueOf limit status left = IfSome left (λ input. AreBytes input → EndsAsDue limit status input)
