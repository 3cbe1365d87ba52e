use Rattle.atspi_script_lines.proofs.LeadLemmas.{word_is}
use Rattle.atspi_script_lines.specs.Words.{app_name}
use Rattle.atspi_browse.proofs.words.next_app.Goals as goal

pub returns-in-None : goal.returns-in-None
returns-in-None c = λ t rest h. let s = word_is c.in-Some.word.now c.in-Some.rest.now rest c.args.bytes.now (app_name t) c.in-Some.ensures.0 tt c.in-Some.ensures.1 h in c.in-None.ensures t s.0 s.1
