use Rattle.std.proofs.Common.{arith}
use Rattle.atspi_script_lines.proofs.SpaceLemmas.{no_space_at_all, no_space_before}
use Rattle.atspi_browse.proofs.words.split_word.Goals as goal

pub returns-then-b-eq32-clause-free : goal.returns-then-b-eq32-clause-free
returns-then-b-eq32-clause-free c = no_space_before c.args.bytes.now c.loop-i.i c.loop-i.invariant

pub returns-clause-free : goal.returns-clause-free
returns-clause-free c = no_space_at_all c.args.bytes.now (λ k l. c.loop-i.invariant k (omega arith))
