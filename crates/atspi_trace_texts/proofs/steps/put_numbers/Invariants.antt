use Rattle.std.proofs.Common.{◌≡◌, ◌++◌, take}
use Rattle.atspi_trace_texts.specs.EventForms.{target_words}
use Rattle.atspi_trace_texts.specs.Written.{words_behind}
use Rattle.atspi_trace_texts.proofs.steps.put_numbers.Given as goal

abbrev pub invariant-loop-n : goal.invariant-loop-n
invariant-loop-n l = l.out ≡ l.initial.out ++ words_behind (target_words (take l.n-index l.numbers))
