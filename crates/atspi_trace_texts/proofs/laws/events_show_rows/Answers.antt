use Rattle.atspi_trace_texts.proofs.Written.{shown_behind_names}
use Rattle.atspi_trace_texts.proofs.laws.events_show_rows.Goals as goal

pub returns : goal.returns
returns c = shown_behind_names
