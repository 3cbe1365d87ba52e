use Rattle.std.proofs.Common.{◌≡◌, ◌++◌, take}
use Rattle.atspi_trace_texts.specs.EventForms.{mark_words}
use Rattle.atspi_trace_texts.specs.Written.{words_behind}
use Rattle.atspi_trace_texts.proofs.steps.put_marks.Given as goal

abbrev pub invariant-loop-mark : goal.invariant-loop-mark
invariant-loop-mark l = l.out ≡ l.initial.out ++ words_behind (mark_words (take l.mark-index l.marks))
