use Rattle.atspi_speech.proofs.LineLemmas.{four_parts}
use Rattle.atspi_due_lines.proofs.states.push_states.Goals as goal

pub returns : goal.returns
returns c =
    four_parts _ _ _ _ _ _ _ _ _ _ c.in_ok-push_checked.ensures c.in_ok-push_expanded.ensures c.in_ok-push_if.ensures
    c.push_if-2.ensures
