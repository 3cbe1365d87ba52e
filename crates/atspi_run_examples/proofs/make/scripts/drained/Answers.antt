use Rattle.std.proofs.Common.{refl}
use Rattle.atspi_script_lines.specs.declared.line.Line.TheVariants.{Drain}
use Rattle.atspi_run_replay.specs.Made.{last_drain, none_drawn, opening}
use Rattle.atspi_run_examples.proofs.OfMake.NextLines.{drain_is}
use Rattle.atspi_run_examples.proofs.make.scripts.drained.Goals as goal

pub returns-clause-none : goal.returns-clause-none
returns-clause-none c seed t law = last_drain seed opening t (none_drawn t law)

pub returns-clause-last : goal.returns-clause-last
returns-clause-last c seed lines t stands = drain_is seed 3 lines Drain t stands refl
