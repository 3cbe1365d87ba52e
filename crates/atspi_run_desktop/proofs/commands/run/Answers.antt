use Rattle.std.proofs.Common.{refl}
use Rattle.atspi_run_desktop.specs.Commands.{usage}
use Rattle.atspi_run_desktop.proofs.OfRun.{tells}
use Rattle.atspi_run_desktop.proofs.commands.run.Goals as goal

pub returns-in-None-clause-usage : goal.returns-in-None-clause-usage
returns-in-None-clause-usage g c none =
    tells c.write_all.result 2 c.status_of.result usage _ _ _ c.status_of.ensures c.write_all.ensures.ok c.write_all.ensures.err refl
