-- Words that only the private contracts and proofs beside `Spending` use.
use Rattle.std.specs.Prelude.{◌≡◌, ℕ, List, Some, slice_get}
use Rattle.atspi_trace_events.specs.declared.event.Event.{Event}
use Rattle.atspi_world_links.specs.declared.post.Post.{Post}
use Rattle.atspi_world_parties.specs.Taken.{Ends}
use Rattle.atspi_world_parties.specs.Spending.{SpendsFront}

-- the same of what lies at an end
abbrev pub GetsSpent : ℕ → List Post → List (List ℕ) → Ends → List Event → List Event → Type 0
GetsSpent conn posts given ends old new = (p : Post) (bytes : List ℕ) → slice_get posts conn ≡ Some p
    → slice_get given conn ≡ Some bytes → SpendsFront bytes posts p.who ends old new
