-- Words that only the private contracts and proofs beside `Moved` use.
use Rattle.std.specs.Prelude.{◌≡◌, ℕ, List, ◌++◌, Option, None, Some, ⊤}
use Rattle.atspi_live_host.specs.declared.call.Call.{Call}
use Rattle.atspi_live_host.specs.Calls.{taken, given}
use Rattle.atspi_live_conversation.specs.Moved.{reads}

-- calls behind others by which some bytes were given, and none taken
abbrev pub Gives : ℕ → Option (List Call) → Option (List Call) → List ℕ → Type 0
Gives k old None part = ⊤
Gives k None (Some cs) part = ⊥
Gives k (Some cs) (Some ds) part = (taken k ds ≡ taken k cs) × (given k ds ≡ given k cs ++ part)
    × (reads k ds ≡ reads k cs)
