use Rattle.atspi_script_lines.proofs.NumberLemmas.{state_found}
use Rattle.atspi_script_lines.proofs.tables.read_state.Goals as goal

pub returns : goal.returns
returns c = state_found c.args.word.now c.state_of_name.result c.state_of_name.ensures.first c.state_of_name.ensures.found
