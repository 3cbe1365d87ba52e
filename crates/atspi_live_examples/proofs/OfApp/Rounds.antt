-- How many rounds a line takes, by all that it can ask for.
use Rattle.std.proofs.Common.{◌≡◌, ℕ, List, subst, ◌∙◌}
use Rattle.atspi_live_app.specs.Asking.{IsAsk}
use Rattle.atspi_live_app.specs.Pace.{Takes, rounds_of}
use Rattle.atspi_live_app.specs.declared.asking.Ask.{Ask}

pub rounds_are : (line : List ℕ) (n : ℕ) (timed : List ℕ × ℕ) → ((what : Ask) → IsAsk what line → rounds_of what ≡ n) → timed.0 ≡ line → Takes timed → timed.1 ≡ n
rounds_are line n timed all e t = t.2 ∙ all t.0 (subst (λ (l : List ℕ). IsAsk t.0 l) e t.1)
