-- Words that only the private contracts and proofs beside `Calls` use.
use Rattle.std.specs.Prelude.{◌≡◌, ℕ, Bool, true, false, List, ◌∷◌, Option, []}
use Rattle.std.specs.Prelude.{None, ⊤}
use Rattle.atspi_live_host.specs.declared.call.Call.{Call}
use Rattle.atspi_live_host.specs.Calls.{IsNew}

-- no two are the same
abbrev pub Differ : List ℕ → Type 0
Differ [] = ⊤
Differ (x ∷ xs) = IsNew x xs × Differ xs

-- what is told stays; or nothing is told any more
abbrev pub Keeps : Bool → Option (List Call) → Option (List Call) → Type 0
Keeps true old new = new ≡ old
Keeps false old new = new ≡ None
