use Rattle.atspi_run_hit.proofs.Exporting.{begins_so}
use Rattle.atspi_run_hit.proofs.exported.ExportedWhole.new.Goals as goal

pub returns-in-Ok-clause-begins : goal.returns-in-Ok-clause-begins
returns-in-Ok-clause-begins g c = begins_so _ c.args.name c.in-Ok.ensures.root c.in-Ok.ensures.none_added
