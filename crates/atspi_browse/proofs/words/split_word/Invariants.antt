use Rattle.atspi_script_lines.proofs.SpaceLemmas.{NoneBefore}
use Rattle.atspi_browse.proofs.words.split_word.Given as goal

abbrev pub invariant-loop-i : goal.invariant-loop-i
invariant-loop-i l = NoneBefore l.bytes l.i
