use Rattle.atspi_script_lines.proofs.LeadLemmas.{word_is}
use Rattle.atspi_script_lines.specs.Words.{role_name}
use Rattle.atspi_script_lines.proofs.tables.next_role.Goals as goal

pub returns-in-None : goal.returns-in-None
returns-in-None c = λ t rest h. c.in-None.ensures t (word_is c.in-Some.word.now c.in-Some.rest.now rest c.args.bytes.now (role_name t) c.in-Some.ensures.0 tt c.in-Some.ensures.1 h)
