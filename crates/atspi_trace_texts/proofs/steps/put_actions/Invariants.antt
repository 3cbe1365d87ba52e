use Rattle.std.proofs.Common.{◌≡◌, ◌++◌, take}
use Rattle.atspi_script_lines.specs.Forms.{action_clauses}
use Rattle.atspi_trace_texts.specs.Written.{words_behind}
use Rattle.atspi_trace_texts.proofs.steps.put_actions.Given as goal

abbrev pub invariant-loop-action : goal.invariant-loop-action
invariant-loop-action l = l.out ≡ l.initial.out ++ words_behind (action_clauses (take l.action-index l.actions))
