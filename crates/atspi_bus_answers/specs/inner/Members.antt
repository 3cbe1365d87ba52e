-- The lines of single members, as their functions say them.
use Rattle.std.specs.Prelude.{◌≡◌, ℕ, true, false, List, Option, None, Some, codes, if◌then◌else◌}
use Rattle.atspi_match.specs.routing.BusState.{BusState}
use Rattle.atspi_match.specs.routing.Answers.{Answer, fails, only, may_be_asked_for, requests, releases}

-- the name that a text is, where connections may ask for it
abbrev pub IsAskedName : Option (List ℕ) → List ℕ → Type 0
IsAskedName None text = may_be_asked_for text ≡ false
IsAskedName (Some name) text = (name ≡ text) × (may_be_asked_for text ≡ true)

abbrev pub requested_answer : BusState → ℕ → List ℕ → ℕ → Answer
requested_answer s conn name flags = if may_be_asked_for name then requests s conn name flags
    else only s (fails (codes "InvalidArgs"))

abbrev pub released_answer : BusState → ℕ → List ℕ → Answer
released_answer s conn name = if may_be_asked_for name then releases s conn name
    else only s (fails (codes "InvalidArgs"))
