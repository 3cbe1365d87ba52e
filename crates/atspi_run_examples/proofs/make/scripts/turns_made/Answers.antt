use Rattle.std.proofs.Common.{arith, refl}
use Rattle.atspi_script_lines.specs.declared.line.Line.TheVariants.{Turns}
use Rattle.atspi_run_replay.specs.Made.{next_turns}
use Rattle.atspi_run_examples.proofs.OfMake.NextLines.{turns_are}
use Rattle.atspi_run_examples.proofs.make.scripts.turns_made.Goals as goal

pub returns-clause-sixteenth : goal.returns-clause-sixteenth
returns-clause-sixteenth c seed x lines t more drawn law = next_turns 15 x lines t more drawn (omega arith) refl law

pub returns-clause-so_many : goal.returns-clause-so_many
returns-clause-so_many c seed count n lines t stands = (turns_are seed count lines (Turns n) t stands n refl).0

pub returns-clause-none : goal.returns-clause-none
returns-clause-none c seed n lines t stands =
    let is = turns_are seed 3 lines (Turns n) t stands n refl in
    omega (arith, is.1.1, is.1.2)
