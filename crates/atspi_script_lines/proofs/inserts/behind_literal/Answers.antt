use Rattle.std.proofs.Common.{rules}
use Rattle.atspi_script_lines.proofs.LeadLemmas.{word_is}
use Rattle.atspi_script_lines.specs.Words.{literal}
use Rattle.atspi_script_lines.proofs.inserts.behind_literal.Goals as goal

pub returns-then-ne : goal.returns-then-ne
returns-then-ne c = λ rest h. search (rules, word_is c.in-Some.first.now c.in-Some.rest.now rest c.args.bytes.now (literal c.args.word.now) c.in-Some.ensures.0 c.requires c.in-Some.ensures.1 h)
