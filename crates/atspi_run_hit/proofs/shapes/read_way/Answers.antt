use Rattle.std.proofs.Common.{rules}
use Rattle.atspi_script_lines.proofs.LeadLemmas.{not_end}
use Rattle.atspi_script_lines.specs.Words.{literal}
use Rattle.atspi_run_hit.specs.Words.{way_word}
use Rattle.atspi_run_hit.proofs.OwnLines.{way_free}
use Rattle.atspi_run_hit.proofs.shapes.read_way.Goals as goal

pub returns-in_default : goal.returns-in_default
returns-in_default c = λ t s. c.in_default.ensures t s.0 s.1

pub returns-then-not-is_empty : goal.returns-then-not-is_empty
returns-then-not-is_empty c = λ t s. not_end (literal (way_word c.in-Some.way)) (literal (way_word t)) c.in-Some.rest.now c.args.bytes.now (way_free c.in-Some.way, way_free t) c.in-Some.ensures (search rules) s
