use Rattle.std.proofs.Common.{◌≡◌, ℕ, List, take, map}
use Rattle.atspi_types.specs.DataView.{all_data}
use Rattle.atspi_protocol.specs.ends.Places.{reference}
use Rattle.atspi_registry.proofs.told.answers.child_values.Given as goal

abbrev pub invariant-loop-child : goal.invariant-loop-child
invariant-loop-child l = all_data l.values ≡ map (λ (r : List ℕ × List ℕ). reference r.0 r.1) (take l.child-index l.children)
