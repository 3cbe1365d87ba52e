-- Lists of those that are to be closed, in which each stands once.
use Rattle.std.specs.Prelude.{◌≡◌, ℕ, false, List, [], ◌∷◌}
use Rattle.atspi_match.specs.declared.routing.closing.Why.{Why}
use Rattle.atspi_match.specs.routing.Queues.{is_due}

-- each connection stands in the list once
abbrev pub AreOnce : List (ℕ × Why) → Type 0
AreOnce [] = Unit {0}
AreOnce (d ∷ due) = (is_due d.0 due ≡ false) × AreOnce due
