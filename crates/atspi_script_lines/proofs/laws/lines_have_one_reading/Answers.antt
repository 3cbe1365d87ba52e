use Rattle.atspi_script_lines.proofs.OnceLemmas.{one_reading}
use Rattle.atspi_script_lines.proofs.laws.lines_have_one_reading.Goals as goal

pub returns : goal.returns
returns c = one_reading
